-- The bytes that are saved of a text, and how a file differs from the text.
use Rattle.std.specs.Prelude.{◌≡◌, ℕ, List}
use Rattle.jx_run.specs.declared.texts.settings.Settings.{Settings}
use Rattle.jx_run.specs.declared.texts.verdict.Verdict.TheVariants.{Accepted}
use Rattle.jx_index.specs.ByNames.{IsVerdictBy}
use Rattle.jx_file_index.specs.Chunks.{part}
use Rattle.jx_file_index.specs.Digest.{xxh64}
use Rattle.jx_file_index.specs.Index.{IsIndexOf}
use Rattle.jx_file_index.specs.declared.saved_text.SavedText.{SavedText}
use Rattle.jx_file_build.specs.TextTables.{KeepsNames}
use Rattle.jx_file_index.specs.SavedTexts.{IsSavableToo}
use Rattle.jx_file_index.specs.TextSpelling.{spelt_saved}

-- an index for chunks of a size is that of a text that is accepted by settings, and the tables of names are, if there are any
pub record IsKeptOf (settings : Settings) (chunk : ℕ) (text : List ℕ) (saved : SavedText) : Type 0 where
  pub index : IsIndexOf settings chunk text saved.index
  pub names : KeepsNames settings chunk text saved.names

-- the bytes are those of such an index, and of such tables after it, if there are any
pub record IsSavedOf (settings : Settings) (chunk : ℕ) (text bytes : List ℕ) : Type 0 where
  pub accepted : IsVerdictBy settings text Accepted
  pub saved : SavedText
  pub kept : IsKeptOf settings chunk text saved
  pub savable : IsSavableToo saved
  pub spelt : bytes ≡ spelt_saved saved

-- a chunk of a file that has the digest of the text's is the text's
abbrev pub TellsApart : ℕ → List ℕ → List ℕ → Type 0
TellsApart chunk text file = (k : ℕ) → xxh64 (part chunk file k) ≡ xxh64 (part chunk text k) → part chunk file k ≡ part chunk text k
