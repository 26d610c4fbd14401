-- The bytes of indexes of lines, and why other bytes are not those of one.
use Rattle.std.specs.Prelude.{◌≡◌, ◌≢◌, ℕ, ◌<◌, ◌^◌, List, length, take}
use Rattle.std.specs.List.{AllByRecursion}
use Rattle.jx_file_index.specs.Chunks.{IsChunkSize, IsCount}
use Rattle.jx_file_index.specs.declared.index_decoding.SavedFault.{SavedFault}
use Rattle.jx_file_index.specs.declared.index_decoding.SavedFault.TheVariants.{Memory, NotAnIndex, OtherVersion, CutShort, Damaged, Malformed, Longer}
use Rattle.jx_file_lines.specs.declared.line_index.LineEntry.{LineEntry}
use Rattle.jx_file_lines.specs.declared.line_index.LineIndex.{LineIndex}
use Rattle.jx_file_lines.specs.Spelling.{lines_tag}

-- ---- all of an index fits its bytes

abbrev pub FitsEntry : LineEntry → Type 0
FitsEntry e = (e.feeds < 2 ^ 64) × (e.digest < 2 ^ 64)

pub record IsSavable (i : LineIndex) : Type 0 where
  pub size : i.size < 2 ^ 64
  pub chunk : IsChunkSize i.chunk
  pub counted : IsCount i.chunk i.size (length i.entries.items)
  pub entries : AllByRecursion FitsEntry i.entries.items

-- ---- what was read

-- an index says the same as another
pub record SaysSame (one other : LineIndex) : Type 0 where
  pub chunk : one.chunk ≡ other.chunk
  pub size : one.size ≡ other.size
  pub entries : one.entries.items ≡ other.entries.items

-- a fault agrees with the first bytes
abbrev pub SaysOf : List ℕ → SavedFault → Type 0
SaysOf bytes NotAnIndex = take 7 bytes ≢ take 7 lines_tag
SaysOf bytes OtherVersion = (take 7 bytes ≡ take 7 lines_tag) × (take 8 bytes ≢ lines_tag)
SaysOf bytes CutShort = take 8 bytes ≡ lines_tag
SaysOf bytes Damaged = take 8 bytes ≡ lines_tag
SaysOf bytes Malformed = take 8 bytes ≡ lines_tag
SaysOf bytes Longer = take 8 bytes ≡ lines_tag
SaysOf bytes Memory = Unit {0}
