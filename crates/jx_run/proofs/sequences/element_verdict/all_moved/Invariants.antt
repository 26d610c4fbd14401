-- The elements before this one are moved.
use Rattle.std.proofs.Common.{◌≡◌, ◌++◌, length, map, take, drop}
use Rattle.jx_run.specs.inside.Moved.{moved}
use Rattle.jx_run.proofs.sequences.element_verdict.all_moved.Given as goal

abbrev pub invariant-loop-at : goal.invariant-loop-at
invariant-loop-at l = record {
  long : length l.elements.items ≡ length l.fn.elements.items;
  moved : l.elements.items ≡ map (moved l.by) (take l.at l.fn.elements.items) ++ drop l.at l.fn.elements.items;
}
