-- How far the names of a text's chunks were read.
use Rattle.std.specs.Prelude.{◌≡◌, ℕ, List, Bool, Option, None, Some, true, false}
use Rattle.std.specs.List.{AllByRecursion}
use Rattle.jx_reduce.specs.KnownStack.{start}
use Rattle.jx_reduce.specs.Read.{read}
use Rattle.jx_run.specs.declared.texts.settings.Settings.{Settings}
use Rattle.jx_run.specs.Reader.{Outcome, is_fault}
use Rattle.jx_run.specs.Telling.{tokens_by}
use Rattle.jx_index.specs.inside.InTurn.{AreInTurn}
use Rattle.jx_file_index.specs.declared.name_tables.NameTables.{NameTables}
use Rattle.jx_file_index.specs.Named.{AreNamed}
use Rattle.jx_file_index.specs.SavedTexts.{FitsTable}
use Rattle.jx_file_build.specs.declared.named_chunks.NamedChunks.{NamedChunks}
use Rattle.jx_file_build.specs.inside.NameBlocks.{AreBlocksOf, FitBlocks, IsKeyCount}
use Rattle.jx_file_build.specs.inside.ChunkNames.{HoldsName}
use Rattle.jx_file_build.specs.inside.OpenKinds.{Mirrors, kinds}

-- the names of so many chunks of this size, of these bytes
pub record AreTold (settings : Settings) (size : ℕ) (bytes : List ℕ) (n : ℕ) (c : NamedChunks) : Type 0 where
  pub mirrors : Mirrors (read settings.depth (tokens_by settings.mark bytes).marks start) (kinds c.standing.kinds)
  pub names : List (List (List ℕ))
  pub named : AreNamed settings size bytes n c.standing.begun names
  pub name_is : HoldsName bytes (kinds c.standing.kinds) c.standing.begun c.standing.name.items
  pub blocks : AreBlocksOf names c.blocks
  pub counted : c.blocks.chunks ≡ n

-- the same where they are asked for, and else there are none
abbrev pub AreNames : Bool → Settings → ℕ → List ℕ → ℕ → Option NamedChunks → Type 0
AreNames true settings size bytes n (Some c) = AreTold settings size bytes n c
AreNames true settings size bytes n None = ⊥
AreNames false settings size bytes n (Some c) = ⊥
AreNames false settings size bytes n None = Unit {0}

-- unless a reading has met a fault
abbrev pub AreNamesAt : Bool → Settings → ℕ → List ℕ → ℕ → Option Outcome → Option NamedChunks → Type 0
AreNamesAt has_names settings size bytes n outcome names = is_fault outcome ≡ false → AreNames has_names settings size bytes n names

-- a token has begun just where a reading is inside one
abbrev pub AreBegun : Option Outcome → Option NamedChunks → Type 0
AreBegun outcome names = AreInTurn (λ (c : NamedChunks). c.standing.begun) outcome names

-- ---- what is kept fits the bytes of tables

pub record FitChunks (c : NamedChunks) : Type 0 where
  pub few : IsKeyCount c.most
  pub fit : FitBlocks c.blocks

abbrev pub AreFit : Option NamedChunks → Type 0
AreFit None = Unit {0}
AreFit (Some c) = FitChunks c

abbrev pub FitTables : Option NameTables → Type 0
FitTables None = Unit {0}
FitTables (Some t) = AllByRecursion FitsTable t.tables.items
