-- Which index of its lines a text has.
use Rattle.std.specs.Prelude.{◌≡◌, ℕ, zero, suc, ◌*◌, List, [], ◌∷◌, ◌++◌, length, slice_index_or, take}
use Rattle.jx_file_index.specs.Chunks.{IsCount, part}
use Rattle.jx_file_index.specs.Digest.{xxh64}
use Rattle.jx_file_lines.specs.declared.line_index.LineEntry.{LineEntry}
use Rattle.jx_file_lines.specs.declared.line_index.LineIndex.{LineIndex}
use Rattle.jx_file_lines.specs.Lines.{feeds_in}

-- the entry of the chunk at a place: the line feeds of the text up to the chunk's end, and the digest of the chunk
abbrev pub entry_at : ℕ → List ℕ → ℕ → LineEntry
entry_at size text n = record { feeds = feeds_in (take (suc n * size) text); digest = xxh64 (part size text n) }

-- those of the first chunks of a text, so many
unfoldable pub entries_of : ℕ → List ℕ → ℕ → List LineEntry
entries_of size text zero = []
entries_of size text (suc n) = entries_of size text n ++ entry_at size text n ∷ []

-- an entry for each of its chunks
pub record IsLineIndexOf (chunk : ℕ) (text : List ℕ) (index : LineIndex) : Type 0 where
  pub chunk_is : index.chunk ≡ chunk
  pub size_is : index.size ≡ length text
  pub counted : IsCount chunk (length text) (length index.entries.items)
  pub entries_are : index.entries.items ≡ entries_of chunk text (length index.entries.items)

-- how many line feeds there are before the chunk at a place, by these entries
abbrev pub feeds_before : List LineEntry → ℕ → ℕ
feeds_before es zero = 0
feeds_before es (suc n) = (slice_index_or es n (record { feeds = 0; digest = 0 })).feeds
