use Rattle.std.proofs.Common.{◌≡◌, length}
use Rattle.jx_index.specs.ByNames.{IsJudgedBy}
use Rattle.jx_run.specs.MarkAlone.{elements_by}
use Rattle.jx_index.specs.inside.JudgedIn.{IsJudgedIn}
use Rattle.jx_run.proofs.InPlace.{Passed}
use Rattle.jx_index.proofs.judging.judged_by_names.Given as goal

-- the elements before this one had their turn
abbrev pub invariant-loop-at : goal.invariant-loop-at
invariant-loop-at l = record {
  long : length l.elements.items ≡ length l.initial.elements.items;
  passed : Passed (IsJudgedIn l.input l.settings.depth) (IsJudgedBy l.settings l.input) l.at (elements_by l.settings.mark l.input) l.elements.items;
}
