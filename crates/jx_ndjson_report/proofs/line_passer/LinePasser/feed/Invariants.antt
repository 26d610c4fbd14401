-- What stands before this place was taken.
use Rattle.std.proofs.Common.{◌≡◌, ◌+◌, ◌-◌, ◌≤◌, ◌++◌, ℕ, List, length, take}
use Rattle.jx_ndjson_report.specs.inside.LinePasser.{HasPassed}
use Rattle.jx_ndjson_report.proofs.line_passer.LinePasser.feed.Given as goal

abbrev pub invariant-loop-at : goal.invariant-loop-at
invariant-loop-at l = record {
  within : l.at ≤ length l.slice;
  count : l.self.teller.lines.reader.start + l.self.teller.lines.reader.count ≡ l.initial.self.teller.lines.reader.start + l.initial.self.teller.lines.reader.count + l.at;
  taken : (bytes given said : List ℕ) → HasPassed l.task bytes given said l.initial.self → HasPassed l.task (bytes ++ take l.at l.slice) given said l.self;
}

abbrev pub decreases-loop-at : goal.decreases-loop-at
decreases-loop-at l = length l.slice - l.at
