-- A report that saves an index of lines, from a reader to a writer, by their bytes.
use Rattle.std.specs.Prelude.{ℕ, List, Option}
use Rattle.std.specs.Io.KnownBytes.{Appends}
use Rattle.jx_ends.specs.Ends.{AppendsBeginning, ReadsToEnd}
use Rattle.jx_cmd_lines.specs.SavedLines.{IsSavedOfLines}

-- the reader gave all that it had, and the writer got the index of its lines
pub record SavesLines (chunk : ℕ) (unread left written grown : Option (List ℕ)) : Type 0 where
  pub text : List ℕ
  pub output : List ℕ
  pub read : ReadsToEnd unread left text
  pub saved : IsSavedOfLines chunk text output
  pub wrote : Appends written grown output

-- the reader gave all that it had, and the writer got a beginning of the index of its lines, and not all
pub record SavesLinesInPart (chunk : ℕ) (unread left written grown : Option (List ℕ)) : Type 0 where
  pub text : List ℕ
  pub output : List ℕ
  pub read : ReadsToEnd unread left text
  pub saved : IsSavedOfLines chunk text output
  pub wrote : AppendsBeginning written grown output
