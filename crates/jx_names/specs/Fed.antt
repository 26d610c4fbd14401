-- Which bytes a reader of names was fed.
use Rattle.std.specs.Prelude.{◌≡◌, ℕ, ◌+◌, List, None, Some, false}
use Rattle.jx_run.specs.declared.texts.settings.NameRule.TheVariants.{Unique}
use Rattle.jx_run.specs.declared.texts.settings.Settings.{Settings}
use Rattle.jx_run.specs.Reader.{HasRead, is_fault}
use Rattle.jx_run.specs.Telling.{tokens_by}
use Rattle.jx_names.specs.declared.held.Held.{Held}
use Rattle.jx_names.specs.declared.names_reader.NamesReader.{NamesReader}
use Rattle.jx_names.specs.inside.HeldNames.{IsHeld}

-- by settings, it was fed these bytes since it was made
pub record HasFed (settings : Settings) (bytes : List ℕ) (r : NamesReader) : Type 0 where
  pub names : settings.names ≡ Unique
  pub settings_are : r.reader.settings ≡ settings
  pub start : r.reader.start ≡ 0
  pub read : HasRead bytes r.reader
  pub kept : Held
  pub kept_is : r.held ≡ Some kept
  pub held : is_fault r.reader.outcome ≡ false → IsHeld bytes (tokens_by settings.mark bytes).marks (tokens_by settings.mark bytes).ends kept.names kept.begun kept.name.items

-- the offset just past the last byte that it was fed
abbrev pub end_of : NamesReader → ℕ
end_of r = r.reader.start + r.reader.count

-- it was out of memory, and will be for every slice
abbrev pub IsLost : NamesReader → Type 0
IsLost r = r.held ≡ None
