-- Which bytes an indexer of lines was fed.
use Rattle.std.specs.Prelude.{◌≡◌, ℕ, ◌+◌, ◌*◌, ◌<◌, List, length, drop, true, false}
use Rattle.jx_file_lines.specs.declared.line_index.LineEntry.{LineEntry}
use Rattle.jx_file_lines.specs.declared.line_indexer.LineIndexer.{LineIndexer}
use Rattle.jx_file_lines.specs.TextLines.{entries_of}

-- the entries are those of its whole chunks, and the part has the bytes after these
pub record AreEntered (size : ℕ) (bytes : List ℕ) (entries : List LineEntry) (part : List ℕ) : Type 0 where
  pub entries_are : entries ≡ entries_of size bytes (length entries)
  pub long : length bytes ≡ length entries * size + length part
  pub part_is : part ≡ drop (length entries * size) bytes
  pub short : length part < size

-- for chunks of this size, it was fed these bytes since it was made
pub record HasFedLines (chunk : ℕ) (bytes : List ℕ) (i : LineIndexer) : Type 0 where
  pub chunk_is : i.chunk ≡ chunk
  pub keeps : i.is_lost ≡ false
  pub entered : AreEntered chunk bytes i.entries.items i.part.items

-- out of memory: every further slice fails
abbrev pub IsLostToLines : LineIndexer → Type 0
IsLostToLines i = i.is_lost ≡ true
