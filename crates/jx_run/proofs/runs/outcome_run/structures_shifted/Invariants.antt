-- The structures before this one are moved, and the others are as they were.
use Rattle.std.proofs.Common.{◌≡◌, ℕ, ◌<◌, ◌≤◌, length, Some}
use Rattle.std.specs.Prelude.{slice_get}
use Rattle.jx_reduce.specs.Structure.{StructureValue}
use Rattle.jx_run.specs.inside.Moved.{IsMovedAt}
use Rattle.jx_run.proofs.runs.outcome_run.structures_shifted.Given as goal

abbrev pub invariant-loop-at : goal.invariant-loop-at
invariant-loop-at l = record {
  long : length l.structures.items ≡ length l.fn.structures.items;
  moved : (at : ℕ) (old : StructureValue) → at < l.at → slice_get l.fn.structures.items at ≡ Some old → IsMovedAt l.by l.structures.items at old;
  rest : (at : ℕ) → l.at ≤ at → slice_get l.structures.items at ≡ slice_get l.fn.structures.items at;
}
