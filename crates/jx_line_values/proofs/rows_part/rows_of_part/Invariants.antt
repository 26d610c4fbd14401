-- The rows of the lines before this place were made.
use Rattle.std.proofs.Common.{◌-◌, ◌≤◌, length, take}
use Rattle.jx_line_values.specs.inside.RowsPart.{IsRowsPart}
use Rattle.jx_line_values.proofs.rows_part.rows_of_part.Given as goal

abbrev pub invariant-loop-at : goal.invariant-loop-at
invariant-loop-at l = record {
  within : l.at ≤ length l.lines;
  made : IsRowsPart l.task (take l.at l.lines) l.part;
}

abbrev pub decreases-loop-at : goal.decreases-loop-at
decreases-loop-at l = length l.lines - l.at
