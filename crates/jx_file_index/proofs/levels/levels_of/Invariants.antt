use Rattle.std.proofs.Common.{◌≡◌, ◌++◌, List, length}
use Rattle.jx_file_index.specs.declared.entry.Entry.{Entry}
use Rattle.jx_file_index.specs.Index.{AreLevels}
use Rattle.jx_file_index.proofs.levels.levels_of.Given as goal

abbrev pub invariant-levels : goal.invariant-levels
invariant-levels l = record {
  none : length l.level.items ≡ 0 → length l.fn.lowest.items ≡ 0;
  kept : (rest : List Entry) (top : Entry) → AreLevels l.level.items rest top → AreLevels l.fn.lowest.items (l.entries.items ++ rest) top;
}

abbrev pub decreases-levels : goal.decreases-levels
decreases-levels l = length l.level.items
