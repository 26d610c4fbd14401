use Rattle.std.proofs.Common.{◌≡◌, length}
use Rattle.jx_file_index.specs.Index.{joined_of}
use Rattle.jx_file_index.proofs.levels.level_above.Given as goal

abbrev pub invariant-joins : goal.invariant-joins
invariant-joins l = record {
  joined : l.above.items ≡ joined_of l.level l.n;
  count : length l.above.items ≡ l.n;
}
