-- The output of reports on several inputs, and the messages on their faults.
use Rattle.std.specs.Prelude.{◌≡◌, ℕ, ◌≤◌, List, [], ◌∷◌, ◌++◌, codes, length, Bool, true, false, Option, Result, Ok, Err}
use Rattle.std.specs.Io.KnownBytes.{Appends}
use Rattle.jx_task.specs.declared.command.Command.{Command}
use Rattle.jx_ends.specs.declared.exit.Exit.{Exit}
use Rattle.jx_ends.specs.Ends.{ReadsToEnd, AppendsBeginning}
use Rattle.jx_report.specs.Output.{Output}
use Rattle.jx_words.specs.Verdicts.{shown_output}
use Rattle.jx_report.specs.Reports.{HasTooManyPieces, greatest_length}
use Rattle.jx_parallel.specs.Offsets.{IsContent}
use Rattle.jx_parallel_report.specs.ReportsAt.{IsShared}
use Rattle.jx_files.specs.declared.file_fault.FileFault.{FileFault}
use Rattle.jx_files.specs.declared.file_fault.FileFault.TheVariants.{Read, Memory, Pieces}
use Rattle.jx_files.specs.declared.reason.Reason.{Reason}
use Rattle.jx_files.specs.declared.status.Status.{Status}
use Rattle.jx_files.specs.declared.status.Status.TheVariants.{Good, Fault}
use Rattle.jx_files.specs.Faults.{fault_line}
use Rattle.jx_files.specs.Naming.{named}
use Rattle.jx_words.specs.Showing.{shown}
use Rattle.jx_files.specs.Status.{greatest, status_of}

-- the bytes that are written for an input after its name
abbrev pub part : List ℕ → List ℕ → List ℕ
part word output = named (shown word ++ codes ": ") output

-- how inputs are opened and read
pub record Ways : Type 1 where
  pub Input : Type 0
  -- the results that opening an argument may give
  pub opens : List ℕ → Result Input FileFault → Type 0
  -- why the last read of an input failed
  pub why : Input → Reason
  -- an input may be shared for reads at offsets
  pub shares : Input → Type 0
  -- a read of an input at an offset may fail for this reason
  pub may_fail : Input → Reason → Type 0
  -- the bytes that an input has left
  pub remaining : Input → Option (List ℕ)
  -- a read of it has failed
  pub has_failed : Input → Bool

abbrev pub ways_of : {Input : Type 0} → (List ℕ → Result Input FileFault → Type 0) → (Input → Reason) → (Input → Type 0) → (Input → Reason → Type 0) → (Input → Option (List ℕ)) → (Input → Bool) → Ways
ways_of {Input} opens why shares may_fail remaining has_failed = record { Input = Input; opens = opens; why = why; shares = shares; may_fail = may_fail; remaining = remaining; has_failed = has_failed }

-- an input may be read at offsets by several threads for a command
abbrev pub MayBeShared : (ways : Ways) → Command → ways.Input → Type 0
MayBeShared ways command input = ways.shares input × IsShared command

-- why there is no answer for what was opened
pub data IsFaultOf (ways : Ways) (command : Command) (input : ways.Input) : FileFault → Type 0 where
  not_read : (left : ways.Input) → ways.has_failed left ≡ true → IsFaultOf ways command input (Read (ways.why left))
  not_read_there : (reason : Reason) → MayBeShared ways command input → ways.may_fail input reason → IsFaultOf ways command input (Read reason)
  too_long : (left : ways.Input) → HasTooManyPieces command (ways.remaining input) (ways.remaining left) → IsFaultOf ways command input Pieces
  no_memory : IsFaultOf ways command input Memory

-- why there is no answer for an argument. Out of memory is no fault of one that names nothing to be read
pub data IsFaultAt (ways : Ways) (command : Command) (word : List ℕ) : FileFault → Type 0 where
  not_opened : (fault : FileFault) → ways.opens word (Err fault) → IsFaultAt ways command word fault
  not_answered : (fault : FileFault) (input : ways.Input) → ways.opens word (Ok input) → IsFaultOf ways command input fault → IsFaultAt ways command word fault

-- this is the output for all that an input had, and how its report ends. It was read to its end, or at offsets where it may be shared
pub data IsAnsweredOf (ways : Ways) (command : Command) (input : ways.Input) (output : List ℕ) (exit : Exit) : Type 0 where
  by_reading : (left : ways.Input) (text : List ℕ) → ReadsToEnd (ways.remaining input) (ways.remaining left) text → length text ≤ greatest_length command.piece
      → Output command.task command.settings text output exit → IsAnsweredOf ways command input output exit
  by_offsets : (text : List ℕ) → MayBeShared ways command input → IsContent (ways.remaining input) text → Output command.task command.settings text output exit → IsAnsweredOf ways command input output exit

-- the same for the input of a word
pub record IsAnsweredAt (ways : Ways) (command : Command) (word : List ℕ) (output : List ℕ) (exit : Exit) : Type 0 where
  pub input : ways.Input
  pub opened : ways.opens word (Ok input)
  pub answered : IsAnsweredOf ways command input output exit

-- the output for one argument, the message on it, and its status
pub data IsReportedAt (ways : Ways) (command : Command) (word : List ℕ) : List ℕ → List ℕ → Status → Type 0 where
  answered : {output : List ℕ} {exit : Exit} → IsAnsweredAt ways command word output exit → IsReportedAt ways command word (part word (shown_output command.quiet output)) [] (status_of exit)
  unanswered : {fault : FileFault} → IsFaultAt ways command word fault → IsReportedAt ways command word [] (fault_line word fault) Fault

-- the output for arguments in their order, the messages on them, and the greatest of their statuses
pub data AreReported (ways : Ways) (command : Command) : List (List ℕ) → List ℕ → List ℕ → Status → Type 0 where
  no_word : AreReported ways command [] [] [] Good
  one_more : {words : List (List ℕ)} {output told : List ℕ} {status : Status} → AreReported ways command words output told status
      → (word more tells : List ℕ) (next : Status) → IsReportedAt ways command word more tells next
      → AreReported ways command (words ++ word ∷ []) (output ++ more) (told ++ tells) (greatest status next)

-- all that is written for the arguments was written, and so were the messages on them unless such a write failed
pub record ReportsEach (ways : Ways) (command : Command) (words : List (List ℕ)) (written grown : Option (List ℕ)) (is_lost : Bool) (told retold : Option (List ℕ)) (status : Status) : Type 0 where
  pub output : List ℕ
  pub tells : List ℕ
  pub reported : AreReported ways command words output tells status
  pub wrote : Appends written grown output
  pub says : is_lost ≡ false → Appends told retold tells

-- a beginning of what is written for the first of the words was written, and not all
pub record ReportsFirst (ways : Ways) (command : Command) (words : List (List ℕ)) (written grown : Option (List ℕ)) : Type 0 where
  pub first : List (List ℕ)
  pub rest : List (List ℕ)
  pub are_first : words ≡ first ++ rest
  pub output : List ℕ
  pub tells : List ℕ
  pub status : Status
  pub reported : AreReported ways command first output tells status
  pub wrote : AppendsBeginning written grown output
