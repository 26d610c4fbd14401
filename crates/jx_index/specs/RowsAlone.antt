-- The rows of a text alone: by settings, and of what stands from an offset on. Offsets count all bytes, those of a front too.
use Rattle.std.specs.Prelude.{◌≡◌, ℕ, List, length}
use Rattle.jx_run.specs.declared.texts.settings.Settings.{Settings}
use Rattle.jx_run.specs.declared.texts.verdict.Verdict.TheVariants.{Accepted}
use Rattle.jx_run.specs.Settings.{IsDocumentBy}
use Rattle.jx_run.specs.Text.{IsText}
use Rattle.jx_run.specs.Tree.{Tree}
use Rattle.jx_index.specs.declared.row.Row.{Row}
use Rattle.jx_index.specs.ByNames.{IsVerdictBy}
use Rattle.jx_index.specs.Rows.{rows}

-- those of the tree of the bytes from an offset on
pub record AreRowsFrom (start : ℕ) (bytes : List ℕ) (limit : ℕ) (table : List Row) : Type 0 where
  pub tree : Tree
  pub is_text : IsText bytes start (length bytes) limit tree
  pub rows_are : table ≡ rows tree

-- those of the tree by settings, whatever names the objects have
pub record AreRowsRead (settings : Settings) (bytes : List ℕ) (table : List Row) : Type 0 where
  pub tree : Tree
  pub is_text : IsDocumentBy settings 0 bytes tree
  pub rows_are : table ≡ rows tree

-- the same of a text that is accepted by settings
abbrev pub AreRowsBy : Settings → List ℕ → List Row → Type 0
AreRowsBy settings bytes table = IsVerdictBy settings bytes Accepted × AreRowsRead settings bytes table
