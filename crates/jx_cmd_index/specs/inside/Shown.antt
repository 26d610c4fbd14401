-- How what was read of an input is shown, by the bytes of two writers.
use Rattle.std.specs.Prelude.{◌≡◌, ℕ, List, Option, Bool, Result, false}
use Rattle.std.specs.Io.KnownBytes.{Appends}
use Rattle.jx_run.specs.declared.texts.settings.Settings.{Settings}
use Rattle.jx_run.specs.declared.texts.verdict.Refusal.{Refusal}
use Rattle.jx_file_index.specs.declared.saved_text.SavedText.{SavedText}
use Rattle.jx_ends.specs.declared.exit.Exit.{Exit}
use Rattle.jx_ends.specs.Ends.{AppendsBeginning}
use Rattle.jx_cmd_index.specs.SaveOutput.{IndexOutput}
use Rattle.jx_cmd_index.specs.inside.Saving.{ComesToSaved}

-- for each input of which this was read, it is the whole output, and all that is reported
abbrev pub IsShownFor : Result SavedText Refusal → List ℕ → List ℕ → Exit → Type 0
IsShownFor read output tells exit =
    (has_names : Bool) (settings : Settings) (chunk : ℕ) (input : List ℕ) → ComesToSaved has_names settings chunk input read → IndexOutput has_names settings chunk input output tells exit

-- the writer got the output, and the report was written unless reporting failed
pub record Shows (read : Result SavedText Refusal) (written grown : Option (List ℕ)) (is_lost : Bool) (told retold : Option (List ℕ)) (exit : Exit) : Type 0 where
  pub output : List ℕ
  pub tells : List ℕ
  pub answer : IsShownFor read output tells exit
  pub wrote : Appends written grown output
  pub says : is_lost ≡ false → Appends told retold tells

-- the writer got a beginning of the output, and not all
pub record ShowsInPart (read : Result SavedText Refusal) (written grown : Option (List ℕ)) : Type 0 where
  pub output : List ℕ
  pub tells : List ℕ
  pub exit : Exit
  pub answer : IsShownFor read output tells exit
  pub wrote : AppendsBeginning written grown output
