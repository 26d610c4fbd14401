use Rattle.std.proofs.Common.{◌≡◌, ◌++◌, length}
use Rattle.jx_index.specs.declared.units.Spelling.TheVariants.{InText}
use Rattle.jx_index.specs.Units.{chars_units}
use Rattle.jx_string.specs.inside.UnitsLeft.{units_left}
use Rattle.jx_names.specs.inside.NameBytes.{by_two}
use Rattle.jx_names.proofs.name_bytes.add_by_two.Given as goal

-- the bytes so far, and those of the units that are left, are all
abbrev pub invariant-loop-unit : goal.invariant-loop-unit
invariant-loop-unit l = l.kept.items ++ by_two (units_left l.left) ≡ l.fn.kept.items ++ by_two (chars_units InText 0 l.bytes)

abbrev pub decreases-loop-unit : goal.decreases-loop-unit
decreases-loop-unit l = length (units_left l.left)
