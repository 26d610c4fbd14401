-- Which bytes a finder was fed.
use Rattle.std.specs.Prelude.{◌≡◌, ℕ, ◌+◌, List, All, Option, None, Some, false}
use Rattle.jx_run.specs.declared.texts.settings.NameRule.TheVariants.{Any}
use Rattle.jx_run.specs.declared.texts.settings.Settings.{Settings}
use Rattle.jx_run.specs.Reader.{HasRead, ReaderValue, is_fault}
use Rattle.jx_run.specs.Telling.{tokens_by}
use Rattle.jx_index.specs.declared.trie.Edge.{Edge}
use Rattle.jx_index.specs.inside.Trie.{HasWay, IsTrie}
use Rattle.jx_find.specs.declared.finder.Finder.{Finder}
use Rattle.jx_find.specs.declared.held.Sought.{Sought}
use Rattle.jx_find.specs.Held.{IsHeld}

-- by settings, a reader read these bytes of a text from its start on, and this is the state after them
pub record HasHeld (settings : Settings) (bytes : List ℕ) (edges : List Edge) (reader : ReaderValue) (kept : Sought) : Type 0 where
  pub names : settings.names ≡ Any
  pub settings_are : reader.settings ≡ settings
  pub start : reader.start ≡ 0
  pub read : HasRead bytes reader
  pub held : is_fault reader.outcome ≡ false
      → IsHeld bytes edges (tokens_by settings.mark bytes).marks (tokens_by settings.mark bytes).ends kept.state kept.next kept.begun kept.name.items

-- by settings and for pointers, it was fed these bytes since it was made
pub record HasFed (settings : Settings) (pointers : List (List ℕ)) (bytes : List ℕ) (f : Finder) : Type 0 where
  pub pointers_are : f.pointers.items ≡ pointers
  pub trie : IsTrie f.edges.items
  pub ways : All (λ (pointer : List ℕ). HasWay f.edges.items pointer) pointers
  pub kept : Sought
  pub kept_is : f.held ≡ Some kept
  pub reading : HasHeld settings bytes f.edges.items f.reader kept

-- the offset just past the last byte that it was fed
abbrev pub end_of : Finder → ℕ
end_of f = f.reader.start + f.reader.count

-- the search that it keeps of them, if it keeps one
abbrev pub held_by : Finder → Option Sought
held_by f = f.held

-- it was out of memory, and will be for every slice
abbrev pub IsLost : Finder → Type 0
IsLost f = f.held ≡ None
