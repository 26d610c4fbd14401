-- The output and the report for an input whose index is saved.
use Rattle.std.specs.Prelude.{◌≡◌, ℕ, List, [], Bool}
use Rattle.jx_run.specs.declared.texts.settings.Settings.{Settings}
use Rattle.jx_run.specs.declared.texts.verdict.Refusal.{Refusal}
use Rattle.jx_run.specs.declared.texts.verdict.Verdict.{Verdict}
use Rattle.jx_run.specs.declared.texts.verdict.Verdict.TheVariants.{Accepted, Refused}
use Rattle.jx_index.specs.ByNames.{IsVerdictBy}
use Rattle.jx_file_index.specs.Index.{IsIndexOf}
use Rattle.jx_file_index.specs.declared.saved_text.SavedText.{SavedText}
use Rattle.jx_file_build.specs.TextTables.{HasNames}
use Rattle.jx_file_index.specs.SavedTexts.{HasTablesToo}
use Rattle.jx_file_index.specs.TextSpelling.{spelt_saved}
use Rattle.jx_ends.specs.declared.exit.Exit.{Exit}
use Rattle.jx_ends.specs.declared.exit.Exit.TheVariants.{Good, Bad}
use Rattle.jx_words.specs.Words.{line, refusal_words}

-- for a text: the bytes of its index are written, and after it these tables, which fit their bytes, and nothing is
-- reported
pub record GivesIndex (has_names : Bool) (settings : Settings) (chunk : ℕ) (text output tells : List ℕ) (exit : Exit) : Type 0 where
  pub saved : SavedText
  pub is_index : IsIndexOf settings chunk text saved.index
  pub names : HasNames has_names settings chunk text saved.names
  pub savable : HasTablesToo saved.index saved.names
  pub written : output ≡ spelt_saved saved
  pub told : tells ≡ []
  pub ends : exit ≡ Good

-- for what is refused: nothing is written, and the verdict is reported
pub record GivesNoIndex (refusal : Refusal) (output tells : List ℕ) (exit : Exit) : Type 0 where
  pub written : output ≡ []
  pub told : tells ≡ line (refusal_words refusal)
  pub ends : exit ≡ Bad

abbrev pub GivesByVerdict : Bool → Settings → ℕ → List ℕ → Verdict → List ℕ → List ℕ → Exit → Type 0
GivesByVerdict has_names settings chunk input Accepted output tells exit = GivesIndex has_names settings chunk input output tells exit
GivesByVerdict has_names settings chunk input (Refused refusal) output tells exit = GivesNoIndex refusal output tells exit

-- the whole output for an input, all that is reported of it, and the status
pub record IndexOutput (has_names : Bool) (settings : Settings) (chunk : ℕ) (input output tells : List ℕ) (exit : Exit) : Type 0 where
  pub verdict : Verdict
  pub is_verdict : IsVerdictBy settings input verdict
  pub gives : GivesByVerdict has_names settings chunk input verdict output tells exit
