-- The units that are left on both sides decide.
use Rattle.std.proofs.Common.{◌≡◌, length}
use Rattle.std.specs.Ordering.{nat_cmp}
use Rattle.std.specs.Cmp.Lexicographic.{slice_cmp}
use Rattle.jx_string.specs.inside.UnitsLeft.{units_left}
use Rattle.jx_string.proofs.tokens.has_units.Given as goal

abbrev pub invariant-loop-one : goal.invariant-loop-one
invariant-loop-one l = slice_cmp nat_cmp (units_left l.left) l.right ≡ slice_cmp nat_cmp (units_left l.initial.left) l.initial.right

abbrev pub decreases-loop-one : goal.decreases-loop-one
decreases-loop-one l = length l.right
