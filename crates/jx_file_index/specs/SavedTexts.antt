-- Which tables have bytes that fix all of them, and what was read.
use Rattle.std.specs.Prelude.{◌≡◌, ℕ, ◌-◌, ◌<◌, ◌^◌, List, [], ◌∷◌, length, Bool, true, false, Option, None, Some}
use Rattle.std.specs.List.{AllByRecursion}
use Rattle.jx_file_index.specs.declared.index.Index.{Index}
use Rattle.jx_file_index.specs.Chunks.{IsCount}
use Rattle.jx_file_index.specs.Saved.{IsSavable, SaysSame}
use Rattle.jx_file_index.specs.declared.name_tables.NameTable.{NameTable}
use Rattle.jx_file_index.specs.declared.name_tables.NameTables.{NameTables}
use Rattle.jx_file_index.specs.declared.saved_text.SavedText.{SavedText}

abbrev pub IsWord : ℕ → Type 0
IsWord n = n < 2 ^ 32

-- a table that keeps no name has no key
abbrev pub FitsKeys : Bool → List ℕ → Type 0
FitsKeys true keys = (length keys < 2 ^ 32 - 1) × AllByRecursion IsWord keys
FitsKeys false keys = keys ≡ []

abbrev pub FitsTable : NameTable → Type 0
FitsTable t = FitsKeys t.is_kept t.keys.items

-- a table for each block of 64 chunks of an index's text
pub record HasItsTables (i : Index) (t : NameTables) : Type 0 where
  pub chunks : ℕ
  pub counted : IsCount i.chunk i.size chunks
  pub blocks : IsCount 64 chunks (length t.tables.items)
  pub fits : AllByRecursion FitsTable t.tables.items

abbrev pub HasTablesToo : Index → Option NameTables → Type 0
HasTablesToo i None = Unit {0}
HasTablesToo i (Some t) = HasItsTables i t

pub record IsSavableToo (s : SavedText) : Type 0 where
  pub index : IsSavable s.index
  pub names : HasTablesToo s.index s.names

-- ---- what was read

-- a table says the same as another
abbrev pub SaysTable : NameTable → NameTable → Type 0
SaysTable one other = (one.is_kept ≡ other.is_kept) × (one.keys.items ≡ other.keys.items)

abbrev pub SayTables : List NameTable → List NameTable → Type 0
SayTables [] [] = Unit {0}
SayTables (one ∷ ones) (other ∷ others) = SaysTable one other × SayTables ones others
SayTables [] (other ∷ others) = ⊥
SayTables (one ∷ ones) [] = ⊥

abbrev pub SayNames : Option NameTables → Option NameTables → Type 0
SayNames None None = Unit {0}
SayNames (Some one) (Some other) = SayTables one.tables.items other.tables.items
SayNames None (Some other) = ⊥
SayNames (Some one) None = ⊥

pub record SaysSameToo (one other : SavedText) : Type 0 where
  pub index : SaysSame one.index other.index
  pub names : SayNames one.names other.names
