-- What stands before this place was taken.
use Rattle.std.proofs.Common.{◌≡◌, ◌+◌, ◌-◌, ◌≤◌, ◌++◌, ℕ, List, length, take}
use Rattle.jx_run.specs.declared.texts.settings.Settings.{Settings}
use Rattle.jx_ndjson.specs.declared.judged_line.JudgedLine.{JudgedLine}
use Rattle.jx_ndjson.specs.Tally.{HasTaken}
use Rattle.jx_ndjson.proofs.line_tally.LineTally.feed_few.Given as goal

abbrev pub invariant-loop-at : goal.invariant-loop-at
invariant-loop-at l = record {
  within : l.at ≤ length l.slice;
  count : l.self.lines.reader.start + l.self.lines.reader.count ≡ l.initial.self.lines.reader.start + l.initial.self.lines.reader.count + l.at;
  taken : (settings : Settings) (input : List ℕ) (given : List JudgedLine) → HasTaken settings input given l.initial.self → HasTaken settings (input ++ take l.at l.slice) given l.self;
}

abbrev pub decreases-loop-at : goal.decreases-loop-at
decreases-loop-at l = length l.slice - l.at
