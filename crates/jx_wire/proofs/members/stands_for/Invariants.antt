-- The units that are left on both sides decide.
use Rattle.std.proofs.Common.{◌≡◌, length}
use Rattle.std.specs.Ordering.{nat_cmp}
use Rattle.std.specs.Cmp.Lexicographic.{slice_cmp}
use Rattle.jx_string.specs.inside.UnitsLeft.{units_left}
use Rattle.jx_wire.proofs.members.stands_for.Given as goal

abbrev pub invariant-loop-unit : goal.invariant-loop-unit
invariant-loop-unit l = slice_cmp nat_cmp (units_left l.left) l.right ≡ slice_cmp nat_cmp (units_left l.initial.left) l.initial.right

abbrev pub decreases-loop-unit : goal.decreases-loop-unit
decreases-loop-unit l = length l.right
