-- What stands before this place was taken, and at most so many lines are bad.
use Rattle.std.proofs.Common.{◌≡◌, ◌+◌, ◌-◌, ◌≤◌, ◌++◌, ℕ, List, length, take}
use Rattle.jx_ndjson_report.specs.inside.LineTeller.{HasTaken}
use Rattle.jx_ndjson_report.proofs.first_lines.take_first.Given as goal

abbrev pub invariant-loop-at : goal.invariant-loop-at
invariant-loop-at l = record {
  within : l.at ≤ length l.slice;
  few : l.teller.bad ≤ l.most;
  count : l.teller.lines.reader.start + l.teller.lines.reader.count ≡ l.initial.teller.lines.reader.start + l.initial.teller.lines.reader.count + l.at;
  taken : (bytes given : List ℕ) → HasTaken l.task bytes given l.initial.teller → HasTaken l.task (bytes ++ take l.at l.slice) given l.teller;
}

abbrev pub decreases-loop-at : goal.decreases-loop-at
decreases-loop-at l = length l.slice - l.at
