-- The bytes that are saved of the lines of a text.
use Rattle.std.specs.Prelude.{◌≡◌, ℕ, List}
use Rattle.jx_file_lines.specs.declared.line_index.LineIndex.{LineIndex}
use Rattle.jx_file_lines.specs.Saved.{IsSavable}
use Rattle.jx_file_lines.specs.Spelling.{spelt_lines}
use Rattle.jx_file_lines.specs.TextLines.{IsLineIndexOf}

-- the bytes are those of the index of the text's lines, for chunks of a size, and all of it fits them
pub record IsSavedOfLines (chunk : ℕ) (text bytes : List ℕ) : Type 0 where
  pub index : LineIndex
  pub is_index : IsLineIndexOf chunk text index
  pub savable : IsSavable index
  pub spelt : bytes ≡ spelt_lines index
