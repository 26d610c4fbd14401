-- What is cut lies in the lines.
use Rattle.std.proofs.Common.{length, ◌-◌, ◌≤◌}
use Rattle.jx_ndjson_report.proofs.line_batch.line_cuts.Given as goal

abbrev pub invariant-loop-at : goal.invariant-loop-at
invariant-loop-at l = l.at ≤ length l.lines

abbrev pub decreases-loop-at : goal.decreases-loop-at
decreases-loop-at l = length l.lines - l.at
