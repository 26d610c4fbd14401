-- Which tables are those of the names of a text, where these are asked for.
use Rattle.std.specs.Prelude.{ℕ, List, length, Bool, true, false, Option, None, Some}
use Rattle.jx_run.specs.declared.texts.settings.Settings.{Settings}
use Rattle.jx_file_index.specs.Chunks.{IsCount}
use Rattle.jx_file_index.specs.declared.name_tables.NameTables.{NameTables}
use Rattle.jx_file_index.specs.NameTables.{AreTablesOf}

-- the tables are those of the names of a text, one for each block of its chunks
pub record HasTables (settings : Settings) (chunk : ℕ) (text : List ℕ) (tables : NameTables) : Type 0 where
  pub are : AreTablesOf settings chunk text tables
  pub blocks : IsCount 64 are.count (length tables.tables.items)

-- the same where they are asked for, and else there are none
abbrev pub HasNames : Bool → Settings → ℕ → List ℕ → Option NameTables → Type 0
HasNames true settings chunk text (Some tables) = HasTables settings chunk text tables
HasNames true settings chunk text None = ⊥
HasNames false settings chunk text (Some tables) = ⊥
HasNames false settings chunk text None = Unit {0}

-- the tables are those of the names of a text, if there are any
abbrev pub KeepsNames : Settings → ℕ → List ℕ → Option NameTables → Type 0
KeepsNames settings chunk text None = Unit {0}
KeepsNames settings chunk text (Some tables) = AreTablesOf settings chunk text tables
