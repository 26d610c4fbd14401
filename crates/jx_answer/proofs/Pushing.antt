-- The elements that a run over a whole input shows, put one after another, are those of the input.
use Rattle.std.proofs.Common.{◌≡◌, ℕ, ◌+◌, ◌<◌, ◌≤◌, List, [], ◌∷◌, length, Bool, true, false, cond, refl, subst, arith}
use Rattle.std.specs.Prelude.{nat_lt}
use Rattle.std.specs.List.{AllZip}
use Rattle.std.proofs.lemmas.Bool.Decides.{nat_tests}
use Rattle.jx_summary.specs.declared.span.Span.{Span}
use Rattle.jx_run.specs.Elements.{part, part_span, filled}
use Rattle.jx_answer.specs.declared.element.ElementAnswer.TheVariants as answer
use Rattle.jx_answer.specs.Sequence.{IsElement}
use Rattle.jx_answer.specs.inside.Pushed.{unmarked}

-- what stands before the first separator, unless it is nothing
pub unmarked_is : (input : List ℕ) (limit : ℕ) (bytes : List ℕ) (place : Span) → part_span (part 0 bytes) ≡ place
    → AllZip (IsElement input limit) (filled (part 0 bytes ∷ [])) (unmarked place)
unmarked_is input limit bytes place h =
    subst (λ s. AllZip (IsElement input limit) (filled (part 0 bytes ∷ [])) (unmarked s)) h
    (pick (nat_lt 0 (length bytes)) (nat_lt 0 (0 + length bytes)) refl refl)
  where
    pick : (a b : Bool) → nat_lt 0 (length bytes) ≡ a → nat_lt 0 (0 + length bytes) ≡ b
        → AllZip (IsElement input limit) (cond a (part 0 bytes ∷ []) []) (cond b (record { span = part_span (part 0 bytes); answer = answer.Unmarked } ∷ []) [])
    pick true true a b = (record { span_is = refl; answer_is = refl }, tt)
    pick false false a b = tt
    pick true false a b =
        let x : 0 < length bytes = grind (arith, nat_tests) in
        let y : 0 + length bytes ≤ 0 = grind (arith, nat_tests) in
        absurd (omega arith)
    pick false true a b =
        let x : length bytes ≤ 0 = grind (arith, nat_tests) in
        let y : 0 < 0 + length bytes = grind (arith, nat_tests) in
        absurd (omega arith)
