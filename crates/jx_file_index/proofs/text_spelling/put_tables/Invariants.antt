use Rattle.std.proofs.Common.{◌≡◌, ◌++◌, take}
use Rattle.std.specs.List.{flat_map}
use Rattle.jx_file_index.specs.TextSpelling.{spelt_table}
use Rattle.jx_file_index.proofs.text_spelling.put_tables.Given as goal

abbrev pub invariant-loop-table : goal.invariant-loop-table
invariant-loop-table l = l.out.items ≡ l.initial.out.items ++ flat_map spelt_table (take l.table-index l.tables)
