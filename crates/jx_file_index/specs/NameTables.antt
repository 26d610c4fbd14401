-- Tables of the names of a text: one for each block of 64 chunks.
use Rattle.std.specs.Prelude.{◌≡◌, ℕ, ◌+◌, ◌*◌, ◌/◌, ◌%◌, ◌<◌, ◌≤◌, List, length, slice_get, slice_index, All, Contains, Option, Some, true}
use Rattle.jx_lex.specs.declared.alphabet.mark.Mark.{Mark}
use Rattle.jx_run.specs.declared.texts.settings.Settings.{Settings}
use Rattle.jx_file_index.specs.Chunks.{IsCount}
use Rattle.jx_file_index.specs.declared.name_tables.NameTable.{NameTable}
use Rattle.jx_file_index.specs.declared.name_tables.NameTables.{NameTables}
use Rattle.jx_file_index.specs.NameHash.{name_hash}
use Rattle.jx_file_index.specs.Named.{AreNamed}

-- of a name with a hash, in a chunk
abbrev pub key_of : ℕ → ℕ → ℕ
key_of hash chunk = hash * 64 + chunk % 64

abbrev pub AreRising : List ℕ → Type 0
AreRising keys = (i j : ℕ) → i ≤ j → j < length keys → slice_index keys i ≤ slice_index keys j

-- where keys rise, this one is not among them
abbrev pub IsWithout : List ℕ → ℕ → Type 0
IsWithout keys key = AreRising keys → Contains keys key → ⊥

-- the table of a chunk's block is kept, and has no such name there
pub record HasNot (tables : NameTables) (chunk hash : ℕ) : Type 0 where
  pub table : NameTable
  pub is : slice_get tables.tables.items (chunk / 64) ≡ Some table
  pub kept : table.is_kept ≡ true
  pub without : IsWithout table.keys.items (key_of hash chunk)

-- ---- of a text

-- of the names of all chunks, a block's table has those of its own
pub record IsTableOf (names : List (List (List ℕ))) (block : ℕ) (keys : List ℕ) : Type 0 where
  pub rising : AreRising keys
  pub has : (n : ℕ) (own : List (List ℕ)) → n / 64 ≡ block → slice_get names n ≡ Some own → All (λ (units : List ℕ). Contains keys (key_of (name_hash units) n)) own

pub record AreTablesOf (settings : Settings) (size : ℕ) (text : List ℕ) (tables : NameTables) : Type 0 where
  pub count : ℕ
  pub counted : IsCount size (length text) count
  pub begun : Option Mark
  pub names : List (List (List ℕ))
  pub named : AreNamed settings size text count begun names
  pub each : (block : ℕ) (table : NameTable) → slice_get tables.tables.items block ≡ Some table → table.is_kept ≡ true → IsTableOf names block table.keys.items
