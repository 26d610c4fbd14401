use Rattle.std.proofs.Common.{◌≡◌, length}
use Rattle.jx_index.specs.declared.units.Spelling.TheVariants.{InText}
use Rattle.jx_index.specs.Units.{chars_units}
use Rattle.jx_string.specs.inside.UnitsLeft.{units_left}
use Rattle.jx_names.specs.inside.NameBytes.{are_ascii}
use Rattle.jx_names.proofs.name_bytes.is_ascii.Given as goal

-- all are ASCII where those that are left are
abbrev pub invariant-loop-unit : goal.invariant-loop-unit
invariant-loop-unit l = are_ascii (units_left l.left) ≡ are_ascii (chars_units InText 0 l.bytes)

abbrev pub decreases-loop-unit : goal.decreases-loop-unit
decreases-loop-unit l = length (units_left l.left)
