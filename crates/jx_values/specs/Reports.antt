-- A report on values from a reader to two writers, by their bytes.
use Rattle.std.specs.Prelude.{◌≡◌, ℕ, ◌<◌, List, length, Option, Bool, false}
use Rattle.std.specs.Io.KnownBytes.{Appends}
use Rattle.jx_task.specs.declared.values_task.ValuesTask.{ValuesTask}
use Rattle.jx_ends.specs.declared.exit.Exit.{Exit}
use Rattle.jx_ends.specs.Ends.{ReadsToEnd, AppendsBeginning}
use Rattle.jx_report.specs.Reports.{IsAnswered, greatest_length}
use Rattle.jx_values.specs.declared.form.Form.{Form}
use Rattle.jx_values.specs.Values.{ValuesOutput}

-- the reader gave all that it had, the writer got the whole output for it, and the report was written unless reporting
-- failed
pub record ReportsValues (form : Form) (task : ValuesTask) (unread left written grown : Option (List ℕ)) (is_lost : Bool) (told retold : Option (List ℕ)) (exit : Exit) : Type 0 where
  pub output : List ℕ
  pub tells : List ℕ
  pub answered : IsAnswered (λ text output exit. ValuesOutput form task text output tells exit) task.piece unread left output exit
  pub wrote : Appends written grown output
  pub says : is_lost ≡ false → Appends told retold tells

-- the reader gave all that it had, and the writer got a beginning of the output for it, and not all
pub record ReportsValuesInPart (form : Form) (task : ValuesTask) (unread left written grown : Option (List ℕ)) : Type 0 where
  pub output : List ℕ
  pub tells : List ℕ
  pub exit : Exit
  pub answered : IsAnswered (λ text output exit. ValuesOutput form task text output tells exit) task.piece unread left output exit
  pub wrote : AppendsBeginning written grown output

-- the reader gave all that it had, and that makes more chunks than there may be
pub record IsTooLong (piece : ℕ) (unread left : Option (List ℕ)) : Type 0 where
  pub text : List ℕ
  pub read : ReadsToEnd unread left text
  pub many : greatest_length piece < length text
