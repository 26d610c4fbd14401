use Rattle.std.proofs.Common.{◌≡◌, List, length, take}
use Rattle.std.specs.List.{AllByRecursion, flat_map}
use Rattle.jx_file_index.specs.declared.entry.Entry.{Entry}
use Rattle.jx_file_index.specs.Saved.{FitsEntry}
use Rattle.jx_file_index.specs.Spelling.{spelt_entry}
use Rattle.jx_file_index.proofs.index_decoding.entries_of.Given as goal

abbrev pub invariant-loop-n : goal.invariant-loop-n
invariant-loop-n l = record {
  count : length l.entries.items ≡ l.n;
  reads : (es : List Entry) → AllByRecursion FitsEntry es → l.bytes ≡ flat_map spelt_entry es → l.entries.items ≡ take l.n es;
}
