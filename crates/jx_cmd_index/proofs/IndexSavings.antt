-- How an input is read batch by batch, and what its index gives.
use Rattle.std.specs.Prelude.{Option, Ok}
use Rattle.std.proofs.Common.{ℕ, Bool, List, [], ◌++◌, refl}
use Rattle.std.specs.Io.KnownBytes.{Consumes}
use Rattle.std.proofs.KnownBytes.{Consumes-trans}
use Rattle.jx_run.specs.declared.texts.settings.Settings.{Settings}
use Rattle.jx_run.specs.declared.texts.verdict.Verdict.TheVariants.{Accepted}
use Rattle.jx_file_index.specs.declared.saved_text.SavedText.{SavedText}
use Rattle.jx_file_index.specs.TextSpelling.{spelt_saved}
use Rattle.jx_ends.specs.declared.exit.Exit.TheVariants.{Good}
use Rattle.jx_cmd_index.specs.declared.saving.Saving.{Saving}
use Rattle.jx_cmd_index.specs.inside.Saving.{ComesToSaved, HasReadOn, IsSavingOf}
use Rattle.jx_cmd_index.specs.SaveOutput.{IndexOutput}

abbrev Known : Type 0
Known = Option (List ℕ)

pub goes_on : (has_names : Bool) (settings : Settings) (chunk : ℕ) (u m n : Known) (batch : List ℕ) (old new : Saving) → HasReadOn has_names settings chunk u m old → Consumes m n batch
    → ((bytes : List ℕ) → IsSavingOf has_names settings chunk bytes old → IsSavingOf has_names settings chunk (bytes ++ batch) new) → HasReadOn has_names settings chunk u n new
goes_on has_names settings chunk u m n batch old new h r fed = record {
  text = h.text ++ batch;
  read = Consumes-trans _ _ _ _ _ h.read r;
  of = fed h.text h.of;
}

-- for a text
pub gives_index : (has_names : Bool) (settings : Settings) (chunk : ℕ) (text : List ℕ) (saved : SavedText) → ComesToSaved has_names settings chunk text (Ok saved)
    → IndexOutput has_names settings chunk text (spelt_saved saved) [] Good
gives_index has_names settings chunk text saved comes = record {
  verdict = Accepted;
  is_verdict = comes.accepted;
  gives = record { saved = saved; is_index = comes.index; names = comes.names; savable = comes.savable; written = refl; told = refl; ends = refl };
}

-- ---- faults
