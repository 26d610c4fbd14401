-- The bytes of indexes, and why other bytes are not those of an index.
use Rattle.std.specs.Prelude.{◌≡◌, ◌≢◌, ℕ, ◌+◌, ◌<◌, ◌≤◌, ◌^◌, List, length, take}
use Rattle.std.specs.List.{AllByRecursion}
use Rattle.jx_file_index.specs.declared.index_decoding.SavedFault.{SavedFault}
use Rattle.jx_file_index.specs.declared.index_decoding.SavedFault.TheVariants.{Memory, NotAnIndex, OtherVersion, CutShort, Damaged, Malformed, Longer}
use Rattle.jx_file_index.specs.declared.entry.Entry.{Entry}
use Rattle.jx_file_index.specs.declared.index.Index.{Index}
use Rattle.jx_file_index.specs.Chunks.{IsChunkSize, IsCount}
use Rattle.jx_file_index.specs.Index.{AreLevels}
use Rattle.jx_file_index.specs.Spelling.{tag}
use Rattle.jx_file_index.specs.Sums.{Fits}

-- so many entries are kept of a level of so many, and of those above it below the top
pub data AreKept : ℕ → ℕ → Type 0 where
  at_top : AreKept 1 0
  level : {n above kept : ℕ} → 1 < n → IsCount 64 n above → AreKept above kept → AreKept n (n + kept)

-- ---- all of an index fits its bytes

pub record FitsEntry (e : Entry) : Type 0 where
  pub sum : Fits e.sum
  pub digest : e.digest < 2 ^ 64

-- it is of a text with some byte, and has an entry for each chunk and for each block of them
pub record HasItsEntries (i : Index) : Type 0 where
  pub some : 0 < i.size
  pub count : ℕ
  pub counted : IsCount i.chunk i.size count
  pub kept : AreKept count (length i.entries.items)

-- and they are those of its chunks and of the blocks of these
pub record HasItsLevels (i : Index) : Type 0 where
  pub some : 0 < i.size
  pub lowest : List Entry
  pub counted : IsCount i.chunk i.size (length lowest)
  pub levels : AreLevels lowest i.entries.items i.top

pub record IsSavable (i : Index) : Type 0 where
  pub has : HasItsLevels i
  pub size : i.size < 2 ^ 64
  pub chunk : IsChunkSize i.chunk
  pub depth : i.settings.depth ≤ 65535
  pub top : FitsEntry i.top
  pub entries : AllByRecursion FitsEntry i.entries.items

-- ---- what was read

-- an index says the same as another
pub record SaysSame (one other : Index) : Type 0 where
  pub settings : one.settings ≡ other.settings
  pub chunk : one.chunk ≡ other.chunk
  pub size : one.size ≡ other.size
  pub entries : one.entries.items ≡ other.entries.items
  pub top : one.top ≡ other.top

abbrev pub IsMemory : SavedFault → Type 0
IsMemory fault = fault ≡ Memory

-- a fault agrees with the first bytes
abbrev pub SaysOf : List ℕ → SavedFault → Type 0
SaysOf bytes NotAnIndex = take 7 bytes ≢ take 7 tag
SaysOf bytes OtherVersion = (take 7 bytes ≡ take 7 tag) × (take 8 bytes ≢ tag)
SaysOf bytes CutShort = take 8 bytes ≡ tag
SaysOf bytes Damaged = take 8 bytes ≡ tag
SaysOf bytes Malformed = take 8 bytes ≡ tag
SaysOf bytes Longer = take 8 bytes ≡ tag
SaysOf bytes Memory = Unit {0}
