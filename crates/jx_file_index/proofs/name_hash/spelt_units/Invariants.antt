use Rattle.std.proofs.Common.{◌≡◌, take}
use Rattle.std.specs.Int.{w32, to_le_bytes}
use Rattle.std.specs.List.{flat_map}
use Rattle.jx_file_index.proofs.name_hash.spelt_units.Given as goal

abbrev pub invariant-loop-unit : goal.invariant-loop-unit
invariant-loop-unit l = l.spelt.items ≡ flat_map (to_le_bytes w32) (take l.unit-index l.units)
