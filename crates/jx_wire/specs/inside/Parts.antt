-- Which parts a reader may stand in.
use Rattle.std.specs.Prelude.{◌<◌}
use Rattle.jx_wire.specs.declared.frame_reader.Part.{Part}
use Rattle.jx_wire.specs.declared.frame_reader.Part.TheVariants.{Head, Body, Broken}

-- of a body that is read a byte is missing
abbrev pub IsMissing : Part → Type 0
IsMissing (Head given) = Unit {0}
IsMissing (Body missing) = 0 < missing
IsMissing (Broken fault) = Unit {0}
