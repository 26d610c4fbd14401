-- The bytes of what is saved of a text. Each number stands low byte first.
use Rattle.std.specs.Prelude.{ℕ, ◌-◌, ◌^◌, List, [], ◌∷◌, ◌++◌, length, Bool, true, false, Option, None, Some}
use Rattle.std.specs.Int.{w32, w64, to_le_bytes}
use Rattle.std.specs.List.{flat_map}
use Rattle.jx_file_index.specs.declared.index.Index.{Index}
use Rattle.jx_file_index.specs.Digest.{xxh64}
use Rattle.jx_file_index.specs.Spelling.{spelt_index}
use Rattle.jx_file_index.specs.declared.name_tables.NameTable.{NameTable}
use Rattle.jx_file_index.specs.declared.name_tables.NameTables.{NameTables}
use Rattle.jx_file_index.specs.declared.saved_text.SavedText.{SavedText}

-- 89, "jxnam", a line feed and the version 1
abbrev pub names_tag : List ℕ
names_tag = 0x89 ∷ 0x6A ∷ 0x78 ∷ 0x6E ∷ 0x61 ∷ 0x6D ∷ 0x0A ∷ 0x01 ∷ []

-- how many keys a table has; all bits are set where it keeps none
abbrev pub key_count : Bool → List ℕ → ℕ
key_count true keys = length keys
key_count false keys = 2 ^ 32 - 1

-- the count, and four bytes for each key
abbrev pub spelt_table : NameTable → List ℕ
spelt_table t = to_le_bytes w32 (key_count t.is_kept t.keys.items) ++ flat_map (to_le_bytes w32) t.keys.items

-- the index, and after it a table for each block
abbrev pub spelt_tables : Index → NameTables → List ℕ
spelt_tables i t = spelt_index i ++ (names_tag ++ flat_map spelt_table t.tables.items)

-- and after them the digest of all these bytes
abbrev pub spelt_names : Index → NameTables → List ℕ
spelt_names i t = spelt_tables i t ++ to_le_bytes w64 (xxh64 (spelt_tables i t))

abbrev pub spelt_with : Index → Option NameTables → List ℕ
spelt_with i None = spelt_index i
spelt_with i (Some t) = spelt_names i t

abbrev pub spelt_saved : SavedText → List ℕ
spelt_saved s = spelt_with s.index s.names
