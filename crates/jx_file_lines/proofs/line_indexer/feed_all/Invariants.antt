use Rattle.std.proofs.Common.{◌≤◌, ◌<◌, ◌-◌, ◌++◌, ℕ, List, length, take}
use Rattle.jx_file_lines.specs.Feeding.{AreEntered}
use Rattle.jx_file_lines.proofs.line_indexer.feed_all.Given as goal

abbrev pub invariant-slices : goal.invariant-slices
invariant-slices l = record {
  within : l.at ≤ length l.slice;
  short : length l.part.items < l.size;
  entered : (bytes : List ℕ) → AreEntered l.size bytes l.fn.entries.items l.fn.part.items → AreEntered l.size (bytes ++ take l.at l.slice) l.entries.items l.part.items;
}

abbrev pub decreases-slices : goal.decreases-slices
decreases-slices l = length l.slice - l.at
