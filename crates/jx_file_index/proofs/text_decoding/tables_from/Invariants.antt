use Rattle.std.proofs.Common.{◌≡◌, ℕ, ◌++◌, List, drop, length, take}
use Rattle.std.specs.List.{AllByRecursion, flat_map}
use Rattle.jx_file_index.specs.declared.name_tables.NameTable.{NameTable}
use Rattle.jx_file_index.specs.SavedTexts.{FitsTable, SayTables}
use Rattle.jx_file_index.specs.TextSpelling.{spelt_table}
use Rattle.jx_file_index.proofs.text_decoding.tables_from.Given as goal

abbrev pub invariant-loop : goal.invariant-loop
invariant-loop l = (ts : List NameTable) (more : List ℕ) → AllByRecursion FitsTable ts → length ts ≡ l.count → l.bytes ≡ flat_map spelt_table ts ++ more
    → SayTables l.tables.items (take l.counter ts) × (l.rest ≡ flat_map spelt_table (drop l.counter ts) ++ more)
