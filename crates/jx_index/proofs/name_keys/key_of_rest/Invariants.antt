use Rattle.std.proofs.Common.{◌≡◌, length}
use Rattle.jx_index.specs.declared.units.Spelling.TheVariants.{InText}
use Rattle.jx_index.specs.Units.{chars_units}
use Rattle.jx_index.specs.inside.NameKeys.{key_behind}
use Rattle.jx_index.specs.inside.UnitsLeft.{units_left}
use Rattle.jx_index.proofs.name_keys.key_of_rest.Given as goal

-- the units that are left lead to the same key
abbrev pub invariant-loop-unit : goal.invariant-loop-unit
invariant-loop-unit l = key_behind l.key (units_left l.units) ≡ key_behind l.start (chars_units InText 0 l.bytes)

abbrev pub decreases-loop-unit : goal.decreases-loop-unit
decreases-loop-unit l = length (units_left l.units)
