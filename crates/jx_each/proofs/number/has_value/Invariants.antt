-- The digits that are left go on with the value so far.
use Rattle.std.proofs.Common.{◌≡◌, ◌≤◌, ◌*◌, ◌+◌, ◌^◌, drop}
use Rattle.jx_index.specs.ArrayTokens.{value_after}
use Rattle.jx_each.proofs.number.has_value.Given as goal

abbrev pub invariant-loop-unit : goal.invariant-loop-unit
invariant-loop-unit l = record {
  value : value_after 0 l.units ≡ value_after l.value (drop l.unit-index l.units);
  small : l.value ≤ l.number * 10 + 2 ^ 32;
}
