-- The output of a report on lines that are read at offsets.
use Rattle.std.specs.Prelude.{◌⊎◌, ℕ, List, Option}
use Rattle.std.specs.Io.KnownBytes.{Appends}
use Rattle.jx_ends.specs.declared.exit.Exit.{Exit}
use Rattle.jx_ends.specs.Ends.{AppendsBeginning}
use Rattle.jx_ndjson_report.specs.declared.task.LinesTask.{LinesTask}
use Rattle.jx_ndjson_report.specs.Output.{IsDue, LinesOutput}
use Rattle.jx_parallel.specs.Offsets.{IsContent, StandThere}

-- the writer got the whole output for an input; where the content is known, that is the input
pub record ReportsLines (task : LinesTask) (known written grown : Option (List ℕ)) (exit : Exit) : Type 0 where
  pub text : List ℕ
  pub output : List ℕ
  pub whole : IsContent known text
  pub answer : LinesOutput task text output exit
  pub wrote : Appends written grown output

-- the writer got what is due of a beginning of the content
pub record WroteLines (task : LinesTask) (known written grown : Option (List ℕ)) : Type 0 where
  pub text : List ℕ
  pub output : List ℕ
  pub there : StandThere known 0 text
  pub due : IsDue task text output
  pub wrote : Appends written grown output

-- the writer got a beginning of what is due of a beginning of the content, or of the whole output for it, and not all
pub record WroteLinesInPart (task : LinesTask) (known written grown : Option (List ℕ)) : Type 0 where
  pub text : List ℕ
  pub output : List ℕ
  pub of : (StandThere known 0 text × IsDue task text output) ⊎ ((exit : Exit) × (IsContent known text × LinesOutput task text output exit))
  pub wrote : AppendsBeginning written grown output
