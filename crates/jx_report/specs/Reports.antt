-- A report from a reader to a writer, by their bytes.
use Rattle.std.specs.Prelude.{ℕ, ◌*◌, ◌<◌, ◌≤◌, List, length, Option}
use Rattle.std.specs.Io.KnownBytes.{Appends}
use Rattle.jx_task.specs.declared.command.Command.{Command}
use Rattle.jx_ends.specs.declared.exit.Exit.{Exit}
use Rattle.jx_ends.specs.Ends.{ReadsToEnd, AppendsBeginning}
use Rattle.jx_words.specs.Verdicts.{shown_output}
use Rattle.jx_report.specs.Output.{Output}

-- how many bytes there may be, in chunks of that many each
abbrev pub greatest_length : ℕ → ℕ
greatest_length piece = 4294967295 * piece

-- the reader gave all that it had, in no more chunks than there may be, and this is the output for it
pub record IsAnswered (IsFor : List ℕ → List ℕ → Exit → Type 0) (piece : ℕ) (unread left : Option (List ℕ)) (output : List ℕ) (exit : Exit) : Type 0 where
  pub text : List ℕ
  pub read : ReadsToEnd unread left text
  pub few : length text ≤ greatest_length piece
  pub answer : IsFor text output exit

-- the reader gave all that it had, and the writer got the whole output for it, or nothing where the command is quiet
pub record Reports (command : Command) (unread left written grown : Option (List ℕ)) (exit : Exit) : Type 0 where
  pub text : List ℕ
  pub output : List ℕ
  pub read : ReadsToEnd unread left text
  pub few : length text ≤ greatest_length command.piece
  pub answer : Output command.task command.settings text output exit
  pub wrote : Appends written grown (shown_output command.quiet output)

-- the reader gave all that it had, and the writer got a beginning of the output for it, and not all
pub record ReportsInPart (command : Command) (unread left written grown : Option (List ℕ)) : Type 0 where
  pub text : List ℕ
  pub output : List ℕ
  pub exit : Exit
  pub read : ReadsToEnd unread left text
  pub few : length text ≤ greatest_length command.piece
  pub answer : Output command.task command.settings text output exit
  pub wrote : AppendsBeginning written grown (shown_output command.quiet output)

-- the reader gave all that it had, and that makes more chunks than there may be
pub record HasTooManyPieces (command : Command) (unread left : Option (List ℕ)) : Type 0 where
  pub text : List ℕ
  pub read : ReadsToEnd unread left text
  pub many : greatest_length command.piece < length text
