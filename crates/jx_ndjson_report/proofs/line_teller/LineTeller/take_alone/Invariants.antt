-- What stands before this place was taken.
use Rattle.std.proofs.Common.{◌≡◌, ◌+◌, ◌-◌, ◌≤◌, ◌++◌, ℕ, List, length, take}
use Rattle.jx_ndjson_report.specs.inside.LineTeller.{HasTaken}
use Rattle.jx_ndjson_report.proofs.line_teller.LineTeller.take_alone.Given as goal

abbrev pub invariant-loop-at : goal.invariant-loop-at
invariant-loop-at l = record {
  within : l.at ≤ length l.slice;
  count : l.self.lines.reader.start + l.self.lines.reader.count ≡ l.initial.self.lines.reader.start + l.initial.self.lines.reader.count + l.at;
  taken : (bytes given : List ℕ) → HasTaken l.task bytes given l.initial.self → HasTaken l.task (bytes ++ take l.at l.slice) given l.self;
}

abbrev pub decreases-loop-at : goal.decreases-loop-at
decreases-loop-at l = length l.slice - l.at
