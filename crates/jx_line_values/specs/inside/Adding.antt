-- The messages on the pointers of a line by what was found.
use Rattle.std.specs.Prelude.{◌≡◌, ℕ, zero, suc, List, [], ◌∷◌, ◌++◌, ◌==◌, Bool, false, if◌then◌else◌, Result, map, not}
use Rattle.jx_run.specs.declared.texts.settings.FrontMark.{FrontMark}
use Rattle.jx_run.specs.declared.texts.settings.NameRule.TheVariants.{Any}
use Rattle.jx_run.specs.declared.texts.settings.Settings.{Settings}
use Rattle.jx_index.specs.declared.find_fault.FindFault.{FindFault}
use Rattle.jx_index.specs.declared.finder.Found.{Found}
use Rattle.jx_ends.specs.declared.exit.Exit.{Exit}
use Rattle.jx_ends.specs.declared.exit.Exit.TheVariants.{Bad}
use Rattle.jx_ndjson.specs.Lines.{Line}
use Rattle.jx_line_values.specs.declared.task.LineValuesTask.{LineValuesTask}
use Rattle.jx_line_values.specs.declared.row_form.RowForm.{RowForm}
use Rattle.jx_line_values.specs.Cells.{separator}
use Rattle.jx_line_values.specs.LineValues.{IsGivenBy, LineGiven, joined, told_of_found, value_bytes}

-- of each, in order
abbrev pub told_of_all : RowForm → ℕ → List ℕ → List (List ℕ) → List (Result Found FindFault) → List ℕ
told_of_all form number bytes [] found = []
told_of_all form number bytes (pointer ∷ pointers) [] = []
told_of_all form number bytes (pointer ∷ pointers) (one ∷ found) = told_of_found form number bytes pointer one ++ told_of_all form number bytes pointers found

-- a separator in front of each value but the first
abbrev pub between_before : RowForm → ℕ → List ℕ
between_before form zero = []
between_before form (suc place) = separator form ∷ []

-- bad where something is reported now, else the status that there was before
abbrev pub exit_past : Exit → List ℕ → Exit
exit_past exit [] = exit
exit_past exit (byte ∷ told) = Bad

-- the bytes that are written by the answers that were found
abbrev pub written_of : LineValuesTask → List ℕ → List (Result Found FindFault) → List ℕ
written_of task bytes found = joined (separator task.form) (map (value_bytes task bytes) found) ++ 10 ∷ []

-- the settings for a line that this may stand in front of
abbrev pub settings_with : LineValuesTask → FrontMark → Settings
settings_with task mark = record { depth = task.settings.depth; mark = mark; names = Any }

-- the output for a line follows the output that waited, and the messages on it follow the messages that waited
pub record IsAdded (task : LineValuesTask) (mark : FrontMark) (l : Line) (ready longer told retold : List ℕ) : Type 0 where
  pub given : LineGiven
  pub is_given : IsGivenBy (settings_with task mark) task l given
  pub written : longer ≡ ready ++ given.written
  pub telling : retold ≡ told ++ given.told

-- a byte of a text that stands for itself between tabs
abbrev pub is_escaped_as_itself : ℕ → Bool
is_escaped_as_itself byte =
    if byte == 0x09 then false else
    if byte == 0x0a then false else
    if byte == 0x0d then false else not (byte == 0x5c)
