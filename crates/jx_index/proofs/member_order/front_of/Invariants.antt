use Rattle.std.proofs.Common.{◌≡◌, ◌-◌, ◌<◌}
use Rattle.jx_index.specs.Units.{chars_units}
use Rattle.jx_index.specs.inside.NameFronts.{front_from, front_of}
use Rattle.jx_index.specs.inside.UnitsLeft.{units_left}
use Rattle.jx_index.proofs.NameFronts.{top}
use Rattle.jx_index.proofs.member_order.front_of.Given as goal

abbrev pub invariant-loop-at : goal.invariant-loop-at
invariant-loop-at l = record {
  is : front_from l.front (8 - l.at) (units_left l.units) ≡ front_of (chars_units l.fn.spelling 0 l.bytes);
  low : l.front < top l.at;
}
