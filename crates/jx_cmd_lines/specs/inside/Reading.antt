-- An index of lines while a reader gives them.
use Rattle.std.specs.Prelude.{ℕ, List, Option}
use Rattle.std.specs.Io.KnownBytes.{Consumes}
use Rattle.jx_ends.specs.Ends.{ReadsToEnd}
use Rattle.jx_file_lines.specs.declared.line_index.LineIndex.{LineIndex}
use Rattle.jx_file_lines.specs.declared.line_indexer.LineIndexer.{LineIndexer}
use Rattle.jx_file_lines.specs.Feeding.{HasFedLines}
use Rattle.jx_file_lines.specs.Saved.{IsSavable}
use Rattle.jx_file_lines.specs.TextLines.{IsLineIndexOf}

-- the indexer was fed all that was read so far
pub record HasFedOn (chunk : ℕ) (unread left : Option (List ℕ)) (indexer : LineIndexer) : Type 0 where
  pub bytes : List ℕ
  pub read : Consumes unread left bytes
  pub fed : HasFedLines chunk bytes indexer

-- the reader gave all that it had, and this is the index of its lines
pub record IsIndexed (chunk : ℕ) (unread left : Option (List ℕ)) (index : LineIndex) : Type 0 where
  pub text : List ℕ
  pub read : ReadsToEnd unread left text
  pub is_index : IsLineIndexOf chunk text index
  pub savable : IsSavable index
