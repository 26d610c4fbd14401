use Rattle.std.proofs.Common.{◌≡◌, ◌++◌, length}
use Rattle.jx_index.specs.declared.units.Spelling.TheVariants.{InText}
use Rattle.jx_index.specs.Units.{chars_units}
use Rattle.jx_string.specs.inside.UnitsLeft.{units_left}
use Rattle.jx_names.proofs.name_bytes.add_ascii.Given as goal

-- the units so far, and those that are left, are all
abbrev pub invariant-loop-unit : goal.invariant-loop-unit
invariant-loop-unit l = l.kept.items ++ units_left l.left ≡ l.fn.kept.items ++ chars_units InText 0 l.bytes

abbrev pub decreases-loop-unit : goal.decreases-loop-unit
decreases-loop-unit l = length (units_left l.left)
