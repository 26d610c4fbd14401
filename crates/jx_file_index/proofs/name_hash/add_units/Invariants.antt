use Rattle.std.proofs.Common.{◌≡◌, ◌++◌, length}
use Rattle.std.specs.Int.{w32, to_le_bytes}
use Rattle.std.specs.List.{flat_map}
use Rattle.jx_index.specs.declared.units.Spelling.TheVariants.{InText}
use Rattle.jx_index.specs.Units.{chars_units}
use Rattle.jx_string.specs.inside.UnitsLeft.{units_left}
use Rattle.jx_file_index.proofs.name_hash.add_units.Given as goal

-- the units so far, and those that are left, are all
abbrev pub invariant-loop-unit : goal.invariant-loop-unit
invariant-loop-unit l = l.spelt.items ++ flat_map (to_le_bytes w32) (units_left l.left) ≡ l.fn.spelt.items ++ flat_map (to_le_bytes w32) (chars_units InText 0 l.bytes)

abbrev pub decreases-loop-unit : goal.decreases-loop-unit
decreases-loop-unit l = length (units_left l.left)
