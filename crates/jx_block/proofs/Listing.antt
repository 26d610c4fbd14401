-- What a word lists, one stretch behind another.
use Rattle.std.proofs.Common.{◌≡◌, ℕ, suc, ◌+◌, ◌<◌, Bool, false, List, [], ◌∷◌, ◌++◌, length, Option, Some, None, if◌then◌else◌, refl, ap, sym, ◌∙◌, arith}
use Rattle.jx_lex.specs.declared.alphabet.mark.Mark.{Mark}
use Rattle.jx_lex.specs.declared.alphabet.mark.MarkKind.{MarkKind}
use Rattle.jx_lex.specs.declared.alphabet.state.LexState.TheVariants.{Gap}
use Rattle.jx_lex.specs.Lex.{with_mark}
use Rattle.jx_lex.specs.Moves.{move}
use Rattle.jx_block.specs.Listed.{is_set, marks_of}

pub with_mark-append : (m : Option MarkKind) (at : ℕ) (xs ys : List Mark) → with_mark m at (xs ++ ys) ≡ with_mark m at xs ++ ys
with_mark-append None at xs ys = refl
with_mark-append (Some k) at xs ys = refl

-- the mark of a byte, if its bit is set
abbrev pub mark_at : ℕ → ℕ → ℕ → Option MarkKind
mark_at word k byte = if is_set word k then (move Gap byte).begin else None

pub marks_of-append : (word k at : ℕ) (u v : List ℕ) → marks_of word k at (u ++ v) ≡ marks_of word k at u ++ marks_of word (k + length u) (at + length u) v
unfolding marks_of
marks_of-append word k at [] v =
    let e : k ≡ k + 0 = omega arith in
    let f : at ≡ at + 0 = omega arith in
    ap (λ k. marks_of word k at v) e ∙ ap (λ a. marks_of word (k + 0) a v) f
marks_of-append word k at (b ∷ u) v =
    let e : suc k + length u ≡ k + suc (length u) = omega arith in
    let f : suc at + length u ≡ at + suc (length u) = omega arith in
    ap (with_mark (mark_at word k b) at)
    (marks_of-append word (suc k) (suc at) u v
    ∙ ap (λ n. marks_of word (suc k) (suc at) u ++ marks_of word n (suc at + length u) v) e
    ∙ ap (λ a. marks_of word (suc k) (suc at) u ++ marks_of word (k + suc (length u)) a v) f)
    ∙ with_mark-append (mark_at word k b) at (marks_of word (suc k) (suc at) u) (marks_of word (k + suc (length u)) (at + suc (length u)) v)

pub marks_of-one : (word k at byte : ℕ) → marks_of word k at (byte ∷ []) ≡ with_mark (mark_at word k byte) at []
unfolding marks_of
marks_of-one word k at byte = refl

pub marks_of-first : (word k at byte : ℕ) (u : List ℕ) → marks_of word k at (byte ∷ u) ≡ with_mark (mark_at word k byte) at (marks_of word (suc k) (suc at) u)
unfolding marks_of
marks_of-first word k at byte u = refl

-- where no bit is set, there is no mark
pub marks_of-none : (word k at : ℕ) (u : List ℕ) → ((j : ℕ) → j < length u → is_set word (k + j) ≡ false) → marks_of word k at u ≡ []
unfolding marks_of
marks_of-none word k at [] none = refl
marks_of-none word k at (b ∷ u) none =
    let e : k + 0 ≡ k = omega arith in
    let f = λ (j : ℕ). let e : suc k + j ≡ k + suc j = omega arith in e in
    ap (λ (t : Bool). with_mark (if t then (move Gap b).begin else None) at (marks_of word (suc k) (suc at) u)) (ap (is_set word) (sym e) ∙ none 0 (omega arith))
    ∙ marks_of-none word (suc k) (suc at) u (λ j lt. ap (is_set word) (f j) ∙ none (suc j) (omega arith))
