-- A text of which an index is known.
use Rattle.std.specs.Prelude.{◌≡◌, ◌≤◌, ℕ, List, Some, false}
use Rattle.jx_run.specs.declared.texts.settings.Settings.{Settings}
use Rattle.jx_run.specs.Reader.{is_fault, read_by}
use Rattle.jx_file_index.specs.declared.index.Index.{Index}
use Rattle.jx_file_index.specs.Index.{IsIndexOf}

-- its reading meets no fault, and no chunk but the last is short
pub record IsKnown (settings : Settings) (chunk : ℕ) (text : List ℕ) (index : Index) : Type 0 where
  pub indexed : IsIndexOf settings chunk text index
  pub goes : is_fault (Some (read_by settings.mark settings.depth 0 text)) ≡ false
  pub size : 64 ≤ chunk
