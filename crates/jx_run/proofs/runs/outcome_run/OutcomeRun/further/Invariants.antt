use Rattle.std.proofs.Common.{◌≤◌, ◌++◌, length, take, All}
use Rattle.jx_lex.specs.Ordinal.{all_states}
use Rattle.jx_run.specs.inside.Joins.{AreJoinedTransitions, AreMade}
use Rattle.jx_run.specs.OutcomeRun.{IsFormWithin}
use Rattle.jx_run.proofs.runs.outcome_run.OutcomeRun.further.Given as goal

abbrev pub invariant-loop-place : goal.invariant-loop-place
invariant-loop-place l = record {
  made : AreMade l.self l.right l.joins.pairs.items l.joins.structures.items;
  within : All (IsFormWithin l.self.depth l.self.start l.right.end) l.joins.structures.items;
  few : length l.joins.structures.items ≤ l.place;
  transitions : AreJoinedTransitions l.self l.right (l.self.structures ++ l.joins.structures.items) (take l.place all_states) l.transitions.items;
}
