-- The results of calls that make a saved index.
use Rattle.std.specs.Prelude.{◌≡◌, ℕ, List, [], ◌++◌, length, Bool, Option, None, Some, Vec}
use Rattle.std.specs.declared.alloc.Global.{Global}
use Rattle.jx_run.specs.declared.texts.settings.Settings.{Settings}
use Rattle.jx_run.specs.declared.texts.verdict.Verdict.{Verdict}
use Rattle.jx_run.specs.declared.texts.verdict.Verdict.TheVariants.{Accepted, Refused}
use Rattle.jx_run.specs.Settings.{JudgedBy}
use Rattle.jx_file_index.specs.Index.{IsIndexOf}
use Rattle.jx_file_build.specs.Indexer.{HasFed}
use Rattle.jx_file_index.specs.declared.saved_text.SavedText.{SavedText}
use Rattle.jx_file_build.specs.TextTables.{HasNames}
use Rattle.jx_file_index.specs.TextSpelling.{spelt_saved}
use Rattle.jx_c.specs.Verdict.{shown}
use Rattle.jx_c.specs.declared.saving.saver.Saver.{Saver}
use Rattle.jx_c.specs.declared.saving.saver.Saver.TheVariants.{Reading, Saved}
use Rattle.jx_c.specs.declared.shapes.verdict.JxVerdict.{JxVerdict}

-- by settings and for chunks of this size, it was fed these bytes since it was made, with tables of names or without; the text has not ended
abbrev pub HasRead : Bool → Settings → ℕ → List ℕ → Saver → Type 0
HasRead has_names settings chunk bytes (Reading fed) = HasFed has_names settings chunk bytes fed
HasRead has_names settings chunk bytes (Saved index) = ⊥

-- a text of which no byte was fed
abbrev pub IsBegun : Bool → Settings → ℕ → Option Saver → Type 0
IsBegun has_names settings chunk held = (s : Saver) × (held ≡ Some s) × HasRead has_names settings chunk [] s

-- after any bytes that it was fed, now it was fed these
abbrev pub IsFed : Saver → List ℕ → Option Saver → Type 0
IsFed old bytes held = (s : Saver) × (held ≡ Some s)
    × ((has_names : Bool) (settings : Settings) (chunk : ℕ) (text : List ℕ) → HasRead has_names settings chunk text old → HasRead has_names settings chunk (text ++ bytes) s)

-- the text's index, and its tables
pub record IsSavedOf (has_names : Bool) (settings : Settings) (chunk : ℕ) (text : List ℕ) (saved : SavedText) : Type 0 where
  pub index : IsIndexOf settings chunk text saved.index
  pub names : HasNames has_names settings chunk text saved.names

-- these are the bytes of the text's index, and of the tables after it
abbrev pub AreBytesOf : Bool → Settings → ℕ → List ℕ → List ℕ → Type 0
AreBytesOf has_names settings chunk text bytes = (saved : SavedText) × IsSavedOf has_names settings chunk text saved × (bytes ≡ spelt_saved saved)

-- the text has ended
abbrev pub HasEnded : Saver → Type 0
HasEnded (Reading fed) = ⊥
HasEnded (Saved index) = Unit {0}

-- with this verdict it ends the text, whatever that is: the bytes of its index are there where it is accepted
abbrev pub IsEndedBy : Saver → Saver → Verdict → Type 0
IsEndedBy old new Accepted = (index : Vec ℕ Global) × (new ≡ Saved index)
    × ((has_names : Bool) (settings : Settings) (chunk : ℕ) (text : List ℕ) → HasRead has_names settings chunk text old → JudgedBy settings 0 text Accepted × AreBytesOf has_names settings chunk text index.items)
IsEndedBy old new (Refused refusal) = (has_names : Bool) (settings : Settings) (chunk : ℕ) (text : List ℕ) → HasRead has_names settings chunk text old → JudgedBy settings 0 text (Refused refusal)

-- by the verdict: the bytes of the text's index wait, or none do
abbrev pub IsKept : Bool → Settings → ℕ → List ℕ → ℕ → Option Saver → Verdict → Type 0
IsKept has_names settings chunk text size held Accepted = (index : Vec ℕ Global) × (held ≡ Some (Saved index)) × AreBytesOf has_names settings chunk text index.items × (size ≡ length index.items)
IsKept has_names settings chunk text size held (Refused refusal) = (held ≡ None) × (size ≡ 0)

-- the verdict on all bytes that it was fed, whatever names their objects have, and by it what waits
abbrev pub IsEndOf : Saver → ℕ → JxVerdict → Option Saver → Type 0
IsEndOf s size told held = (has_names : Bool) (settings : Settings) (chunk : ℕ) (text : List ℕ) → HasRead has_names settings chunk text s
    → (verdict : Verdict) × JudgedBy settings 0 text verdict × (told ≡ shown verdict) × IsKept has_names settings chunk text size held verdict
