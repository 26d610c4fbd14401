-- Reading two lists one after another is reading them joined.
use Rattle.std.proofs.Common.{◌≡◌, ℕ, suc, ◌+◌, List, [], ◌∷◌, ◌++◌, length, Option, Some, None, refl, ap, ◌∙◌, arith}
use Rattle.jx_lex.specs.declared.alphabet.state.LexState.{LexState}
use Rattle.jx_lex.specs.declared.alphabet.mark.MarkKind.{MarkKind}
use Rattle.jx_lex.specs.declared.alphabet.state.TokenEnd.{TokenEnd}
use Rattle.jx_lex.specs.declared.alphabet.state.TokenEnd.TheVariants.{Before, After}
use Rattle.jx_lex.specs.declared.alphabet.state.Step.{Step}
use Rattle.jx_lex.specs.declared.alphabet.mark.Mark.{Mark}
use Rattle.jx_lex.specs.Moves.{move}
use Rattle.jx_lex.specs.Lex.{lex, Track, with_mark, with_end, after_step, on_next}
use Rattle.jx_lex.specs.TwoPieces.{joined, right_of}

with_mark-append : (m : Option MarkKind) (at : ℕ) (xs ys : List Mark) → with_mark m at (xs ++ ys) ≡ with_mark m at xs ++ ys
with_mark-append None at xs ys = refl
with_mark-append (Some k) at xs ys = refl

with_end-append : (e : Option TokenEnd) (at : ℕ) (xs ys : List ℕ) → with_end e at (xs ++ ys) ≡ with_end e at xs ++ ys
with_end-append None at xs ys = refl
with_end-append (Some Before) at xs ys = refl
with_end-append (Some After) at xs ys = refl

after_step-joined : (st : Step) (at : ℕ) (left : Track) (right : LexState → Track)
    → after_step st at (joined left right) ≡ joined (after_step st at left) right
after_step-joined st at left right =
    let r = right_of left.exit right in
    ap (λ (m : List Mark). record { marks = m; ends = with_end st.end at (left.ends ++ r.ends); exit = r.exit }) (with_mark-append st.begin at left.marks r.marks)
    ∙ ap (λ (e : List ℕ). record { marks = with_mark st.begin at left.marks ++ r.marks; ends = e; exit = r.exit }) (with_end-append st.end at left.ends r.ends)

pub lex-append : (u v : List ℕ) (s : LexState) (at : ℕ) → lex s at (u ++ v) ≡ joined (lex s at u) (λ n. lex n (at + length u) v)
unfolding lex
lex-append [] v s at = let x : at ≡ at + 0 = omega arith in ap (λ n. lex s n v) x
lex-append (b ∷ u) v s at =
    ap (after_step (move s b) at) (next_joined ((move s b).next) (λ n. lex-append u v n (suc at)))
    ∙ after_step-joined (move s b) at (on_next ((move s b).next) at (λ n. lex n (suc at) u)) (λ n. lex n (at + suc (length u)) v)
  where
    next_joined : (m : Option LexState) → ((n : LexState) → lex n (suc at) (u ++ v) ≡ joined (lex n (suc at) u) (λ n. lex n (suc at + length u) v))
        → on_next m at (λ n. lex n (suc at) (u ++ v)) ≡ joined (on_next m at (λ n. lex n (suc at) u)) (λ n. lex n (at + suc (length u)) v)
    next_joined None h = refl
    next_joined (Some n) h = h n ∙ ap (λ k. joined (lex n (suc at) u) (λ n. lex n k v)) (let x : suc at + length u ≡ at + suc (length u) = omega arith in x)
