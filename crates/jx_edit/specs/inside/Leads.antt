-- Where bytes lead from a place.
use Rattle.std.specs.Prelude.{ℕ, ◌≤◌, length}
use Rattle.jx_run.specs.Reading.{TextReading, stopped, too_deep}
use Rattle.jx_edit.specs.declared.reading.led.Led.{Led as TheLed}
use Rattle.jx_edit.specs.declared.reading.led.Led.TheVariants as led
use Rattle.jx_edit.specs.inside.Places.{came_to}

abbrev pub reading_in : TheLed → TextReading
reading_in (led.On p) = came_to p
reading_in (led.Stopped at) = stopped at
reading_in (led.TooDeep at) = too_deep at

-- no more containers are open there than the depth allows
abbrev pub IsLedWithin : ℕ → TheLed → Type 0
IsLedWithin limit (led.On p) = length p.holders ≤ limit
IsLedWithin limit (led.Stopped at) = Unit {0}
IsLedWithin limit (led.TooDeep at) = Unit {0}
