-- The bytes that a walk through the chunks of a text needs, and those that it was given.
use Rattle.std.specs.Prelude.{◌≡◌, ℕ, ◌+◌, ◌-◌, ◌*◌, All, List, length, slice_range, Option, None, Some}
use Rattle.jx_summary.specs.declared.span.Span.{Span}
use Rattle.jx_run.specs.declared.texts.settings.Settings.{Settings}
use Rattle.jx_index.specs.inside.Trie.{HasWay, IsTrie}
use Rattle.jx_find.specs.declared.held.Sought.{Sought}
use Rattle.jx_file_index.specs.Digest.{xxh64}
use Rattle.jx_file_index.specs.NameTables.{AreTablesOf}
use Rattle.jx_index.specs.declared.trie.Edge.{Edge}
use Rattle.jx_file_query.specs.declared.members.TextNames.{TextNames}
use Rattle.jx_file_query.specs.declared.walk.Walk.{Walk}
use Rattle.jx_file_query.specs.Chunks.{chunk_at}
use Rattle.jx_file_query.specs.HeldAt.{IsHeldAt}
use Rattle.jx_file_query.specs.Known.{IsKnown}
use Rattle.jx_file_query.specs.Hashes.{HaveHashes}

-- where the bytes stand that are to be given next
abbrev pub needed : Walk → Option Span
needed w = chunk_at w.index.now w.at

-- how many bytes of the text stand from there on
abbrev pub left : Walk → ℕ
left w = w.index.now.size - w.at * w.index.now.chunk

-- bytes that have the digest of a part of a text are those of the part
abbrev pub IsToldApart : List ℕ → Span → List ℕ → Type 0
IsToldApart text s bytes = xxh64 bytes ≡ xxh64 (slice_range text s.start s.end) → bytes ≡ slice_range text s.start s.end

-- the tables are those of the names of this text, and the hashes those of the edges' names
pub record AreNamesOf (settings : Settings) (size : ℕ) (text : List ℕ) (edges : List Edge) (names : TextNames) : Type 0 where
  pub tables : AreTablesOf settings size text names.tables.now
  pub hashes : HaveHashes edges names.hashes.items

-- if it has tables
abbrev pub HasNamesOf : Settings → ℕ → List ℕ → List Edge → Option TextNames → Type 0
HasNamesOf settings size text edges None = Unit {0}
HasNamesOf settings size text edges (Some names) = AreNamesOf settings size text edges names

-- it has the index of this text, these pointers, and what a finder holds that was fed the text up to what it needs
pub record HasCome (settings : Settings) (chunk : ℕ) (text : List ℕ) (pointers : List (List ℕ)) (w : Walk) : Type 0 where
  pub known : IsKnown settings chunk text w.index.now
  pub pointers_are : w.pointers.items ≡ pointers
  pub trie : IsTrie w.edges.items
  pub ways : All (λ (pointer : List ℕ). HasWay w.edges.items pointer) pointers
  pub names : HasNamesOf settings chunk text w.edges.items w.names
  pub kept : Sought
  pub kept_is : w.held ≡ Some kept
  pub held : IsHeldAt settings chunk text w.edges.items w.at kept

-- the search that it keeps of the bytes before those that it needs, if it keeps one
abbrev pub held_by : Walk → Option Sought
held_by w = w.held

-- how many containers stand open by what is kept: those on the way of a pointer, and those that are skipped
abbrev pub open_in : Option Sought → ℕ
open_in None = 0
open_in (Some h) = length h.state.opened.items + h.state.skipped

-- out of memory, or the index was found not to be that of any text, and no bytes will be taken
abbrev pub IsLost : Walk → Type 0
IsLost w = w.held ≡ None
