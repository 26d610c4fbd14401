use Rattle.std.proofs.Common.{◌≤◌, length, take}
use Rattle.std.specs.Prelude.{IfSome}
use Rattle.jx_lex.specs.Ordinal.{all_states}
use Rattle.jx_run.specs.inside.Reduced.{ArePaths, AreTransitionsOf, IsLoneIn}
use Rattle.jx_run.proofs.runs.reduce.all_transitions.Given as goal

abbrev pub invariant-loop-place : goal.invariant-loop-place
invariant-loop-place l = record {
  paths : ArePaths l.depth l.map l.paths.slots.items l.paths.numbers.items l.paths.structures.items;
  lone : IfSome l.paths.lone (IsLoneIn l.depth l.paths.structures.items);
  few : length l.paths.structures.items ≤ l.place;
  transitions : AreTransitionsOf l.depth l.map l.paths.structures.items (take l.place all_states) l.transitions.items;
}
