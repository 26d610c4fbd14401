-- The units that are left decide.
use Rattle.std.proofs.Common.{◌≡◌, length}
use Rattle.std.specs.Prelude.{◌↔◌}
use Rattle.jx_string.specs.inside.UnitsLeft.{units_left}
use Rattle.jx_sentence.proofs.earlier_name.are_same.Given as goal

abbrev pub invariant-loop-unit : goal.invariant-loop-unit
invariant-loop-unit l = (units_left l.left ≡ units_left l.right) ↔ (units_left l.initial.left ≡ units_left l.initial.right)

abbrev pub decreases-loop-unit : goal.decreases-loop-unit
decreases-loop-unit l = length (units_left l.left)
