-- The messages of the server.
use Rattle.jx_run.specs.declared.texts.settings.FrontMark.TheVariants as mark
use Rattle.jx_run.specs.declared.texts.settings.NameRule.TheVariants as names
use Rattle.jx_run.specs.declared.texts.settings.Settings.{Settings}

-- no byte order mark, and no name twice
abbrev pub message_settings : Settings
message_settings = record { depth = 512; mark = mark.Refused; names = names.Unique }
