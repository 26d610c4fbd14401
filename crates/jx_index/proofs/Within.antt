-- The marks of a reading stand in the bytes that it read.
use Rattle.std.proofs.Common.{◌≡◌, ℕ, suc, ◌+◌, ◌-◌, ◌<◌, ◌≤◌, List, [], ◌∷◌, length, Option, None, Some, arith, drop}
use Rattle.std.proofs.lemmas.List.Elements.{All-cons, All-nil}
use Rattle.std.proofs.lemmas.List.{length-drop, length-take-le}
use Rattle.std.specs.Prelude.{All, slice_range}
use Rattle.jx_lex.specs.declared.alphabet.mark.Mark.{Mark}
use Rattle.jx_lex.specs.declared.alphabet.state.LexState.{LexState}
use Rattle.jx_lex.specs.declared.alphabet.mark.MarkKind.{MarkKind}
use Rattle.jx_lex.specs.Moves.{move}
use Rattle.jx_lex.specs.Lex.{lex, with_mark, on_next}

with_mark-within : (k : Option MarkKind) (at limit : ℕ) (marks : List Mark) → at < limit → All (λ (m : Mark). m.at < limit) marks → All (λ (m : Mark). m.at < limit) (with_mark k at marks)
with_mark-within None at limit marks h all = all
with_mark-within (Some k) at limit marks h all = All-cons (λ (m : Mark). m.at < limit) _ _ h all

pub marks_within : (s : LexState) (at : ℕ) (bytes : List ℕ) (limit : ℕ) → at + length bytes ≤ limit → All (λ (m : Mark). m.at < limit) (lex s at bytes).marks
unfolding lex
marks_within s at [] limit h = All-nil (λ (m : Mark). m.at < limit)
marks_within s at (b ∷ bs) limit h =
    with_mark-within ((move s b).begin) at limit _ (omega arith) (next_of ((move s b).next) (λ n. marks_within n (suc at) bs limit (omega arith)))
  where
    next_of : (n : Option LexState) → ((s : LexState) → All (λ (m : Mark). m.at < limit) (lex s (suc at) bs).marks)
        → All (λ (m : Mark). m.at < limit) (on_next n at (λ n. lex n (suc at) bs)).marks
    next_of None rec = All-nil (λ (m : Mark). m.at < limit)
    next_of (Some s) rec = rec s

pub slice_end : (text : List ℕ) (start end : ℕ) → start ≤ end → end ≤ length text → start + length (slice_range text start end) ≡ end
slice_end text start end h k =
    let d : length (drop start text) ≡ length text - start = length-drop start text in
    let t : length (slice_range text start end) ≡ end - start = length-take-le (end - start) (drop start text) (omega arith) in
    omega arith
