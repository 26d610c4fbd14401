use Rattle.std.proofs.Common.{◌≡◌, List, length, take}
use Rattle.std.specs.List.{AllByRecursion, flat_map}
use Rattle.jx_file_lines.specs.declared.line_index.LineEntry.{LineEntry}
use Rattle.jx_file_lines.specs.Saved.{FitsEntry}
use Rattle.jx_file_lines.specs.Spelling.{spelt_entry}
use Rattle.jx_file_lines.proofs.decoding.entries_of.Given as goal

abbrev pub invariant-loop-n : goal.invariant-loop-n
invariant-loop-n l = record {
  count : length l.entries.items ≡ l.n;
  reads : (es : List LineEntry) → AllByRecursion FitsEntry es → l.bytes ≡ flat_map spelt_entry es → l.entries.items ≡ take l.n es;
}
