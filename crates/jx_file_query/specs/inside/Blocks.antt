-- The entries of an index for blocks of chunks.
use Rattle.std.specs.Prelude.{◌≡◌, ◌+◌, ◌*◌, ◌<◌, ◌≤◌, ℕ, List, length, drop, slice_get, Some}
use Rattle.jx_run.specs.declared.texts.settings.Settings.{Settings}
use Rattle.jx_run.specs.Reader.{Outcome, expect_behind, state_behind}
use Rattle.jx_run.specs.Telling.{track_of}
use Rattle.jx_file_index.specs.declared.entry.Entry.{Entry}
use Rattle.jx_file_index.specs.declared.index.Index.{Index}
use Rattle.jx_file_index.specs.Chunks.{IsCount, before, has_some, part}
use Rattle.jx_file_index.specs.Index.{AreLevels}
use Rattle.jx_file_index.specs.Sums.{sum_of}
use Rattle.jx_file_query.specs.declared.blocks.Block.{Block}
use Rattle.jx_file_query.specs.Known.{IsKnown}

-- an entry says of bytes, after those before them, all that the entry of a chunk would but their digest
pub record TellsOf (earlier : Outcome) (bytes : List ℕ) (e : Entry) : Type 0 where
  pub state : e.state ≡ state_behind earlier
  pub expect : e.expect ≡ expect_behind earlier
  pub sum : e.sum ≡ sum_of (track_of earlier bytes).marks
  pub begins : e.begins ≡ has_some (track_of earlier bytes).marks
  pub ends : e.ends ≡ has_some (track_of earlier bytes).ends

-- of each part of a text of this size, the last one too, there is an entry that says it
pub record IsLevel (settings : Settings) (size : ℕ) (text : List ℕ) (es : List Entry) : Type 0 where
  pub counted : IsCount size (length text) (length es)
  pub each : (n : ℕ) (e : Entry) → slice_get es n ≡ Some e → TellsOf (before settings text (n * size)) (part size text n) e

-- a block begins with the chunk at a place, and from where it says the entries of its level stand, with those above
pub record IsBlockOf (settings : Settings) (chunk : ℕ) (text : List ℕ) (index : Index) (at : ℕ) (b : Block) : Type 0 where
  pub begins : b.place * b.chunks ≡ at
  pub level : List Entry
  pub count : b.count ≡ length level
  pub levels : AreLevels level (drop b.start index.entries.items) index.top
  pub tells : IsLevel settings (b.chunks * chunk) text level

-- for any text
pub record IsBlockAt (index : Index) (at : ℕ) (b : Block) : Type 0 where
  pub some : 1 ≤ b.chunks
  pub of : (settings : Settings) (chunk : ℕ) (text : List ℕ) → IsKnown settings chunk text index → IsBlockOf settings chunk text index at b

-- an entry is about the bytes of a block, where more of the text follows them
abbrev pub TellsOfBlock : Index → Block → Entry → Type 0
TellsOfBlock index b e = (at : ℕ) → IsBlockAt index at b → (settings : Settings) (chunk : ℕ) (text : List ℕ) → IsKnown settings chunk text index
    → (b.place + 1) * (b.chunks * chunk) < length text
    → TellsOf (before settings text (b.place * (b.chunks * chunk))) (part (b.chunks * chunk) text b.place) e
