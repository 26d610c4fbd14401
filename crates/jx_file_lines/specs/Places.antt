-- Where a line begins, by the index of a text.
use Rattle.std.specs.Prelude.{◌≡◌, ℕ, ◌+◌, ◌*◌, ◌<◌, ◌≤◌, List}
use Rattle.jx_file_index.specs.Chunks.{part}
use Rattle.jx_file_lines.specs.declared.place.LinePlace.{LinePlace}
use Rattle.jx_file_lines.specs.declared.place.LinePlace.TheVariants.{At, Behind}
use Rattle.jx_file_lines.specs.Lines.{feeds_in, line_start}

-- the line behind so many line feeds of the text begins in this chunk of it, behind so many of the chunk's own
pub record BeginsIn (size : ℕ) (text : List ℕ) (feeds chunk own : ℕ) : Type 0 where
  pub start : line_start feeds text ≡ chunk * size + line_start own (part size text chunk)
  pub has : own ≤ feeds_in (part size text chunk)

abbrev pub BeginsAt : ℕ → List ℕ → ℕ → LinePlace → Type 0
BeginsAt size text feeds (At offset) = line_start feeds text ≡ offset
BeginsAt size text feeds (Behind chunk own) = BeginsIn size text feeds chunk own

-- the chunk is one of so many, and the line feed before the line is its own
abbrev pub IsWithinChunks : ℕ → LinePlace → Type 0
IsWithinChunks count (At offset) = Unit {0}
IsWithinChunks count (Behind chunk own) = (chunk < count) × (0 < own)
