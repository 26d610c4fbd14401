-- The bytes read of an input whose index is saved.
use Rattle.std.specs.Prelude.{◌≡◌, ℕ, List, Bool, Option, Result, Ok, Err}
use Rattle.std.specs.Io.KnownBytes.{Consumes}
use Rattle.jx_run.specs.declared.texts.settings.NameRule.TheVariants.{Any, Unique}
use Rattle.jx_run.specs.declared.texts.settings.Settings.{Settings}
use Rattle.jx_run.specs.declared.texts.verdict.Refusal.{Refusal}
use Rattle.jx_run.specs.declared.texts.verdict.Verdict.{Verdict}
use Rattle.jx_run.specs.declared.texts.verdict.Verdict.TheVariants.{Accepted, Refused}
use Rattle.jx_index.specs.ByNames.{IsVerdictBy}
use Rattle.jx_names.specs.Fed as fed
use Rattle.jx_file_build.specs.declared.indexer.Indexer.{Indexer}
use Rattle.jx_file_index.specs.Index.{IsIndexOf}
use Rattle.jx_file_build.specs.Indexer.{HasFed}
use Rattle.jx_file_index.specs.declared.saved_text.SavedText.{SavedText}
use Rattle.jx_file_build.specs.TextTables.{HasNames}
use Rattle.jx_file_index.specs.SavedTexts.{HasTablesToo}
use Rattle.jx_ends.specs.Ends.{ReadsToEnd}
use Rattle.jx_cmd_index.specs.declared.saving.Saving.{Saving}
use Rattle.jx_cmd_index.specs.declared.saving.Saving.TheVariants as saving

-- the same settings, but for the names, which may be any
abbrev pub any_names : Settings → Settings
any_names settings = record { depth = settings.depth; mark = settings.mark; names = Any }

-- these bytes were read from the start of an input, for tables of names too or not
abbrev pub IsSavingOf : Bool → Settings → ℕ → List ℕ → Saving → Type 0
IsSavingOf has_names settings chunk bytes (saving.Any indexer) = HasFed has_names settings chunk bytes indexer
IsSavingOf has_names settings chunk bytes (saving.Unique indexer names) = HasFed has_names (any_names settings) chunk bytes indexer × fed.HasFed settings bytes names

-- they were read for an index, and this is the verdict by their names, which have to be unique
pub record IsByNames (has_names : Bool) (settings : Settings) (chunk : ℕ) (bytes : List ℕ) (indexer : Indexer) (verdict : Verdict) : Type 0 where
  pub unique : settings.names ≡ Unique
  pub fed : HasFed has_names (any_names settings) chunk bytes indexer
  pub is_verdict : IsVerdictBy settings bytes verdict

-- the reader gave these bytes, and they were read
pub record HasReadOn (has_names : Bool) (settings : Settings) (chunk : ℕ) (unread left : Option (List ℕ)) (saving : Saving) : Type 0 where
  pub text : List ℕ
  pub read : Consumes unread left text
  pub of : IsSavingOf has_names settings chunk text saving

-- the saved parts of a text
pub record IsSaved (has_names : Bool) (settings : Settings) (chunk : ℕ) (text : List ℕ) (saved : SavedText) : Type 0 where
  pub accepted : IsVerdictBy settings text Accepted
  pub index : IsIndexOf settings chunk text saved.index
  pub names : HasNames has_names settings chunk text saved.names
  pub savable : HasTablesToo saved.index saved.names

-- the result for a text: what is saved of it, or why it is refused
abbrev pub ComesToSaved : Bool → Settings → ℕ → List ℕ → Result SavedText Refusal → Type 0
ComesToSaved has_names settings chunk text (Ok saved) = IsSaved has_names settings chunk text saved
ComesToSaved has_names settings chunk text (Err refusal) = IsVerdictBy settings text (Refused refusal)

-- all that the reader had was read, and this is what it leads to
pub record IsRead (has_names : Bool) (settings : Settings) (chunk : ℕ) (unread left : Option (List ℕ)) (saved : Result SavedText Refusal) : Type 0 where
  pub text : List ℕ
  pub read : ReadsToEnd unread left text
  pub comes : ComesToSaved has_names settings chunk text saved
