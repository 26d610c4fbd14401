use Rattle.std.proofs.Common.{◌≤◌, ◌<◌, ◌+◌, ◌-◌, length}
use Rattle.jx_file_lines.specs.TextLines.{feeds_before}
use Rattle.jx_file_lines.proofs.place.chunk_with.Given as goal

abbrev pub invariant-halves : goal.invariant-halves
invariant-halves l = record {
  order : l.low ≤ l.high;
  within : l.high ≤ length l.entries;
  before : feeds_before l.entries l.low < l.feeds;
  has : l.high < length l.entries → l.feeds ≤ feeds_before l.entries (l.high + 1);
}

abbrev pub decreases-halves : goal.decreases-halves
decreases-halves l = l.high - l.low
