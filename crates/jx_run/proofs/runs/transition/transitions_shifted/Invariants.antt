-- The transitions before this one are moved.
use Rattle.std.proofs.Common.{◌≡◌, ◌++◌, length, map, take, drop}
use Rattle.jx_run.specs.inside.Moved.{moved_transition}
use Rattle.jx_run.proofs.runs.transition.transitions_shifted.Given as goal

abbrev pub invariant-loop-at : goal.invariant-loop-at
invariant-loop-at l = record {
  long : length l.transitions.items ≡ length l.fn.transitions.items;
  moved : l.transitions.items ≡ map (moved_transition l.by) (take l.at l.fn.transitions.items) ++ drop l.at l.fn.transitions.items;
}
