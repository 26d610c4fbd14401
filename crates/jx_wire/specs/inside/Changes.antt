-- The changes of a message.
use Rattle.jx_wire.specs.declared.call.Change.{Change}
use Rattle.jx_wire.specs.declared.call.Change.TheVariants.{Whole, Range, Unknown}
use Rattle.jx_wire.specs.declared.call.Place.{Place}

-- a text in the place of a range
abbrev pub ranged : Change → Place → Place → Change
ranged (Whole text) start end = Range start end text
ranged (Range from to text) start end = Range from to text
ranged Unknown start end = Unknown
