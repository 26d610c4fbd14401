use Rattle.std.proofs.Common.{◌≡◌, ◌-◌, length, drop}
use Rattle.std.specs.Ordering.{nat_cmp}
use Rattle.std.specs.Cmp.Lexicographic.{slice_cmp}
use Rattle.jx_index.specs.Units.{chars_units}
use Rattle.jx_index.proofs.names.same_front.Given as goal

abbrev pub invariant-loop-at : goal.invariant-loop-at
invariant-loop-at l =
    slice_cmp nat_cmp (chars_units l.fn.one 0 l.left) (chars_units l.fn.other 0 l.right)
    ≡ slice_cmp nat_cmp (chars_units l.fn.one 0 (drop l.at l.left)) (chars_units l.fn.other 0 (drop l.at l.right))

abbrev pub decreases-loop-at : goal.decreases-loop-at
decreases-loop-at l = length l.left - l.at
