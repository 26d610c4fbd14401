-- Which bytes an indexer was fed.
use Rattle.std.specs.Prelude.{◌≡◌, ℕ, List, Bool, None, Some}
use Rattle.jx_run.specs.declared.texts.settings.NameRule.TheVariants.{Any}
use Rattle.jx_run.specs.declared.texts.settings.Settings.{Settings}
use Rattle.jx_file_build.specs.declared.indexer.Indexer.{Indexer}
use Rattle.jx_file_build.specs.Held.{AreHeld, HeldValue}

-- by settings and for chunks of this size, it was fed these bytes since it was made, for tables of names too or not
pub record HasFed (has_names : Bool) (settings : Settings) (chunk : ℕ) (bytes : List ℕ) (i : Indexer) : Type 0 where
  pub names : settings.names ≡ Any
  pub settings_are : i.settings ≡ settings
  pub chunk_is : i.chunk ≡ chunk
  pub kept : HeldValue
  pub kept_is : i.held ≡ Some kept
  pub held : AreHeld has_names settings chunk bytes kept i.part.items

-- out of memory: every further slice fails
abbrev pub IsLost : Indexer → Type 0
IsLost i = i.held ≡ None
