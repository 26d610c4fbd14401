-- The names of chunks as they are kept, in blocks of 64.
use Rattle.std.specs.Prelude.{◌≡◌, ℕ, ◌-◌, ◌/◌, ◌<◌, ◌^◌, List, length, not, slice_get, All, Contains, Some, true, false}
use Rattle.std.specs.List.{AllByRecursion}
use Rattle.jx_file_index.specs.Chunks.{IsCount}
use Rattle.jx_file_index.specs.declared.name_tables.NameTable.{NameTable}
use Rattle.jx_file_index.specs.declared.name_tables.NameTables.{NameTables}
use Rattle.jx_file_index.specs.NameHash.{name_hash}
use Rattle.jx_file_index.specs.NameTables.{key_of, IsTableOf}
use Rattle.jx_file_build.specs.declared.blocks.Blocks.{Blocks}
use Rattle.jx_file_build.specs.declared.blocks.OpenBlock.{OpenBlock}
use Rattle.jx_file_index.specs.SavedTexts.{FitsKeys, FitsTable}

-- of the names of all chunks, these keys have those of a block's own
abbrev pub HasBlock : List (List (List ℕ)) → ℕ → List ℕ → Type 0
HasBlock names block keys = (n : ℕ) (own : List (List ℕ)) → n / 64 ≡ block → slice_get names n ≡ Some own → All (λ (units : List ℕ). Contains keys (key_of (name_hash units) n)) own

-- each table is that of its block; the keys of the block that has fewer chunks are those of its names, unless they were too many
pub record AreFilled (names : List (List (List ℕ))) (filled : List NameTable) (last : OpenBlock) (count : ℕ) : Type 0 where
  pub chunks : count ≡ length names
  pub place : length filled ≡ length names / 64
  pub tables : (block : ℕ) (table : NameTable) → slice_get filled block ≡ Some table → table.is_kept ≡ true → IsTableOf names block table.keys.items
  pub keys : last.is_full ≡ false → HasBlock names (length names / 64) last.keys.items

abbrev pub AreBlocksOf : List (List (List ℕ)) → Blocks → Type 0
AreBlocksOf names b = AreFilled names b.tables.items b.open b.chunks

-- a table for each block of all chunks
pub record AreBlockTables (names : List (List (List ℕ))) (t : NameTables) : Type 0 where
  pub counted : IsCount 64 (length names) (length t.tables.items)
  pub each : (block : ℕ) (table : NameTable) → slice_get t.tables.items block ≡ Some table → table.is_kept ≡ true → IsTableOf names block table.keys.items

-- ---- what is kept fits the bytes of tables

-- so many keys are counted in four bytes, of which not all bits are set
abbrev pub IsKeyCount : ℕ → Type 0
IsKeyCount n = n < 2 ^ 32 - 1

-- the block will have a table that fits: where its names were too many, it has no key
abbrev pub FitsOpen : OpenBlock → Type 0
FitsOpen b = FitsKeys (not b.is_full) b.keys.items

pub record FitBlocks (b : Blocks) : Type 0 where
  pub tables : AllByRecursion FitsTable b.tables.items
  pub last : FitsOpen b.open
