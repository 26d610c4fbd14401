-- The output of a report on bytes that are read at offsets.
use Rattle.std.specs.Prelude.{◌≡◌, ℕ, List, Option, ⊤}
use Rattle.std.specs.Io.KnownBytes.{Appends}
use Rattle.jx_ends.specs.declared.exit.Exit.{Exit}
use Rattle.jx_ends.specs.Ends.{AppendsBeginning}
use Rattle.jx_run.specs.declared.texts.settings.FrontMark.{FrontMark}
use Rattle.jx_run.specs.declared.texts.settings.FrontMark.TheVariants.{Refused}
use Rattle.jx_run.specs.declared.texts.settings.NameRule.TheVariants.{Any}
use Rattle.jx_task.specs.declared.command.Command.{Command}
use Rattle.jx_task.specs.declared.task.Task.{Task}
use Rattle.jx_task.specs.declared.task.Task.TheVariants.{Check, Index, At, Seq}
use Rattle.jx_words.specs.Verdicts.{shown_output}
use Rattle.jx_report.specs.Output.{Output}
use Rattle.jx_parallel.specs.Offsets.{IsContent}

-- it asks for the verdict on a text, or for those on the elements of a sequence in front of which no byte order mark is ignored
abbrev pub IsSharedTask : Task → FrontMark → Type 0
IsSharedTask Check mark = ⊤
IsSharedTask Seq mark = mark ≡ Refused
IsSharedTask Index mark = ⊥
IsSharedTask (At pointers) mark = ⊥

-- the same where objects may have any names
abbrev pub IsShared : Command → Type 0
IsShared command = (command.settings.names ≡ Any) × IsSharedTask command.task command.settings.mark

-- the writer got the whole output for a text, or nothing where the command is quiet; where the content is known, that is the text
pub record ReportsAt (command : Command) (known written grown : Option (List ℕ)) (exit : Exit) : Type 0 where
  pub text : List ℕ
  pub output : List ℕ
  pub whole : IsContent known text
  pub answer : Output command.task command.settings text output exit
  pub wrote : Appends written grown (shown_output command.quiet output)

-- the writer got a beginning of that, and not all
pub record ReportsAtInPart (command : Command) (known written grown : Option (List ℕ)) : Type 0 where
  pub text : List ℕ
  pub output : List ℕ
  pub exit : Exit
  pub whole : IsContent known text
  pub answer : Output command.task command.settings text output exit
  pub wrote : AppendsBeginning written grown (shown_output command.quiet output)
