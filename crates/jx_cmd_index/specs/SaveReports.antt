-- A report that saves an index, from a reader to two writers, by their bytes.
use Rattle.std.specs.Prelude.{◌≡◌, ℕ, List, Option, Bool, false}
use Rattle.std.specs.Io.KnownBytes.{Appends}
use Rattle.jx_run.specs.declared.texts.settings.Settings.{Settings}
use Rattle.jx_ends.specs.declared.exit.Exit.{Exit}
use Rattle.jx_ends.specs.Ends.{ReadsToEnd, AppendsBeginning}
use Rattle.jx_cmd_index.specs.SaveOutput.{IndexOutput}

-- the reader gave all that it had, the writer got the whole output for it, and the report was written unless reporting
-- failed
pub record ReportsIndex (has_names : Bool) (settings : Settings) (chunk : ℕ) (unread left written grown : Option (List ℕ)) (is_lost : Bool) (told retold : Option (List ℕ)) (exit : Exit) : Type 0 where
  pub text : List ℕ
  pub output : List ℕ
  pub tells : List ℕ
  pub read : ReadsToEnd unread left text
  pub answer : IndexOutput has_names settings chunk text output tells exit
  pub wrote : Appends written grown output
  pub says : is_lost ≡ false → Appends told retold tells

-- the reader gave all that it had, and the writer got a beginning of the output for it, and not all
pub record ReportsIndexInPart (has_names : Bool) (settings : Settings) (chunk : ℕ) (unread left written grown : Option (List ℕ)) : Type 0 where
  pub text : List ℕ
  pub output : List ℕ
  pub tells : List ℕ
  pub exit : Exit
  pub read : ReadsToEnd unread left text
  pub answer : IndexOutput has_names settings chunk text output tells exit
  pub wrote : AppendsBeginning written grown output
