-- A text whose index is made while workers read its chunks.
use Rattle.std.specs.Prelude.{◌≡◌, ℕ, List, Bool, length}
use Rattle.jx_run.specs.declared.texts.settings.Settings.{Settings}
use Rattle.jx_parallel.specs.declared.part_reader.PartRule.{PartRule}
use Rattle.jx_cmd_index.specs.declared.saving.Saving.{Saving}
use Rattle.jx_cmd_index.specs.inside.Saving.{IsSavingOf}

-- these bytes were read from a text's start, and they are so many
pub record HasRead (has_names : Bool) (settings : Settings) (chunk : ℕ) (rule : PartRule) (bytes : List ℕ) (saving : Saving) (count : ℕ) : Type 0 where
  pub depth : rule.depth ≡ settings.depth
  pub saving_is : IsSavingOf has_names settings chunk bytes saving
  pub count_is : count ≡ length bytes
