-- Pointers that are looked up in a text while it is read batch by batch.
use Rattle.std.specs.Prelude.{◌≡◌, ℕ, List, Option, None, Some, String, Vec, map, string_bytes}
use Rattle.std.specs.Global.{Global}
use Rattle.jx_run.specs.declared.texts.settings.NameRule.TheVariants.{Any, Unique}
use Rattle.jx_run.specs.declared.texts.settings.Settings.{Settings}
use Rattle.jx_run.specs.declared.texts.verdict.Refusal.{Refusal}
use Rattle.jx_run.specs.declared.texts.verdict.Verdict.TheVariants.{Accepted, Refused}
use Rattle.jx_index.specs.ByNames.{IsVerdictBy}
use Rattle.jx_index.specs.declared.pointer.PointerFault.{PointerFault}
use Rattle.jx_find.specs.Finder.{HasFed}
use Rattle.jx_names.specs.Fed as names
use Rattle.jx_task.specs.declared.task.Task.{Task}
use Rattle.jx_task.specs.declared.task.Task.TheVariants.{At}
use Rattle.jx_report.specs.declared.name_check.NameCheck.{NameCheck}
use Rattle.jx_report.specs.declared.name_check.NameCheck.TheVariants as check
use Rattle.jx_report.specs.declared.pointer_reader.PointerReader.{PointerReader}
use Rattle.jx_words.specs.inside.ReadPointers.{AreReadPointers}

-- the same settings, but objects may have any names
abbrev pub any_names : Settings → Settings
any_names settings = record { depth = settings.depth; mark = settings.mark; names = Any }

-- the task asks what strings that were read as these pointers lead to in a text
pub record AreSought (task : Task) (pointers : List (List ℕ)) (unread : List (Option PointerFault)) : Type 0 where
  pub spelt : Vec (String Global) Global
  pub task_is : task ≡ At spelt
  pub read : AreReadPointers (map string_bytes spelt.items) pointers unread

-- the names in these bytes are compared, where they have to be unique
abbrev pub AreCompared : Settings → List ℕ → NameCheck → Type 0
AreCompared settings text check.Any = settings.names ≡ Any
AreCompared settings text (check.Unique reader) = names.HasFed settings text reader

-- why a text is refused for its names or else; where it is not, it is accepted, if names have to be unique
abbrev pub IsRefusalByNames : Settings → List ℕ → Option Refusal → Type 0
IsRefusalByNames settings text None = (settings.names ≡ Unique) → IsVerdictBy settings text Accepted
IsRefusalByNames settings text (Some refusal) = IsVerdictBy settings text (Refused refusal)

-- the pointers that these strings encode are looked up in these bytes, and names are compared
pub record AreLookedUp (settings : Settings) (spelt : List (List ℕ)) (text : List ℕ) (reader : PointerReader) : Type 0 where
  pub pointers : List (List ℕ)
  pub read : AreReadPointers spelt pointers reader.unread.items
  pub fed : HasFed (any_names settings) pointers text reader.finder
  pub compared : AreCompared settings text reader.names

-- the task asks for that
pub record IsPointerRead (task : Task) (settings : Settings) (text : List ℕ) (reader : PointerReader) : Type 0 where
  pub spelt : Vec (String Global) Global
  pub task_is : task ≡ At spelt
  pub looked_up : AreLookedUp settings (map string_bytes spelt.items) text reader
