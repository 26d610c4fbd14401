-- The elements before this one had their turn.
use Rattle.std.proofs.Common.{◌≡◌, ℕ, ◌+◌, List, length}
use Rattle.std.specs.Prelude.{slice_range}
use Rattle.jx_run.proofs.InPlace.{Passed}
use Rattle.jx_answer.specs.Named.{IsNamed}
use Rattle.jx_answer.proofs.NamedThere.{IsNext}
use Rattle.jx_answer.proofs.batches.naming.named_elements.Given as goal

abbrev pub invariant-loop-at : goal.invariant-loop-at
invariant-loop-at l = record {
  long : length l.elements.items ≡ length l.initial.elements.items;
  passed : Passed (IsNext l.before (l.before + length l.part))
      (λ told e. (input : List ℕ) → slice_range input l.before (l.before + length l.part) ≡ l.part → IsNamed l.settings input told e) l.at l.initial.elements.items l.elements.items;
}
