-- How the document of a client is made.
use Rattle.std.specs.Prelude.{◌≡◌}
use Rattle.jx_run.specs.declared.texts.settings.NameRule.TheVariants.{Any}
use Rattle.jx_run.specs.declared.texts.settings.Settings.{Settings}

-- with the settings of the client, but for the rule on names
abbrev pub IsHeld : Settings → Settings → Type 0
IsHeld settings document = document ≡ record settings { names = Any }
