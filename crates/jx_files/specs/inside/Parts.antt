-- The output and the messages for one word.
use Rattle.std.specs.Prelude.{◌≡◌, ℕ, List, [], Option, Bool, false, ⊤}
use Rattle.std.specs.Io.KnownBytes.{Appends}
use Rattle.jx_task.specs.declared.command.Command.{Command}
use Rattle.jx_ends.specs.Ends.{AppendsBeginning}
use Rattle.jx_words.specs.Verdicts.{shown_output}
use Rattle.jx_report.specs.Output.{Output}
use Rattle.jx_parallel.specs.Offsets.{IsContent}
use Rattle.jx_files.specs.declared.reports.Answer.{Answer}
use Rattle.jx_files.specs.declared.reports.Part.{Part}
use Rattle.jx_files.specs.declared.file_fault.FileFault.{FileFault}
use Rattle.jx_files.specs.declared.file_fault.FileFault.TheVariants.{Folder, Open, Read, Memory, Pieces, NoPointer, PointerOrFile}
use Rattle.jx_files.specs.declared.reason.Reason.{Reason}
use Rattle.jx_files.specs.declared.status.Status.{Status}
use Rattle.jx_files.specs.Files.{Ways, IsAnsweredAt, IsAnsweredOf, IsReportedAt}

-- these are the lines for a text, where they are shown; where the content is known, that is the text
pub record IsAnsweredThere (command : Command) (known : Option (List ℕ)) (answer : Answer) : Type 0 where
  pub text : List ℕ
  pub output : List ℕ
  pub whole : IsContent known text
  pub answer_is : Output command.task command.settings text output answer.exit
  pub shown : answer.lines.items ≡ shown_output command.quiet output

-- if a read failed, it failed for such a reason, and nothing else but memory was missing
abbrev pub IsFaultThere : (Reason → Type 0) → FileFault → Type 0
IsFaultThere may_fail Memory = ⊤
IsFaultThere may_fail (Read reason) = may_fail reason
IsFaultThere may_fail Folder = ⊥
IsFaultThere may_fail (Open reason) = ⊥
IsFaultThere may_fail Pieces = ⊥
IsFaultThere may_fail NoPointer = ⊥
IsFaultThere may_fail PointerOrFile = ⊥

-- these are the lines for an input, where they are shown
pub record IsAnsweredFrom (ways : Ways) (command : Command) (input : ways.Input) (answer : Answer) : Type 0 where
  pub output : List ℕ
  pub answered : IsAnsweredOf ways command input output answer.exit
  pub shown : answer.lines.items ≡ shown_output command.quiet output

-- the same for the input of a word
pub record IsAnsweredBy (ways : Ways) (command : Command) (word : List ℕ) (answer : Answer) : Type 0 where
  pub output : List ℕ
  pub answered : IsAnsweredAt ways command word output answer.exit
  pub shown : answer.lines.items ≡ shown_output command.quiet output

-- this is written for an argument, and there is no message
abbrev pub IsPartOf : Ways → Command → List ℕ → Part → Type 0
IsPartOf ways command word part = IsReportedAt ways command word part.lines.items [] part.status

-- all that is written for an argument was written, and so was the message on it unless such a write failed
pub record ReportsOne (ways : Ways) (command : Command) (word : List ℕ) (written grown : Option (List ℕ)) (is_lost : Bool) (told retold : Option (List ℕ)) (status : Status) : Type 0 where
  pub output : List ℕ
  pub tells : List ℕ
  pub reported : IsReportedAt ways command word output tells status
  pub wrote : Appends written grown output
  pub says : is_lost ≡ false → Appends told retold tells

-- a beginning of what is written for a word was written, and not all
pub record ReportsPart (ways : Ways) (command : Command) (word : List ℕ) (written grown : Option (List ℕ)) : Type 0 where
  pub output : List ℕ
  pub tells : List ℕ
  pub status : Status
  pub reported : IsReportedAt ways command word output tells status
  pub wrote : AppendsBeginning written grown output
