-- Settings as C names them: a depth, and a sum of flags.
use Rattle.std.specs.Prelude.{ℕ, ◌==◌, ◌/◌, ◌%◌, if◌then◌else◌}
use Rattle.jx_run.specs.declared.texts.settings.FrontMark.{FrontMark}
use Rattle.jx_run.specs.declared.texts.settings.FrontMark.TheVariants.{Refused, Ignored}
use Rattle.jx_run.specs.declared.texts.settings.NameRule.{NameRule}
use Rattle.jx_run.specs.declared.texts.settings.NameRule.TheVariants.{Any, Unique}
use Rattle.jx_run.specs.declared.texts.settings.Settings.{Settings}
use Rattle.jx_c.specs.declared.shapes.settings.JxSettings.{JxSettings}

-- a byte order mark is ignored where the flags have 1
abbrev pub mark_in : ℕ → FrontMark
mark_in flags = if flags % 2 == 1 then Ignored else Refused

-- names have to be unique where the flags have 2
abbrev pub names_in : ℕ → NameRule
names_in flags = if (flags / 2) % 2 == 1 then Unique else Any

abbrev pub settings_in : JxSettings → Settings
settings_in asked = record { depth = asked.depth; mark = mark_in asked.flags; names = names_in asked.flags }
