-- The digits that are left decide.
use Rattle.std.proofs.Common.{◌≡◌, drop}
use Rattle.jx_index.specs.ArrayTokens.{all_digits}
use Rattle.jx_each.proofs.number.all_digits.Given as goal

abbrev pub invariant-loop-unit : goal.invariant-loop-unit
invariant-loop-unit l = all_digits l.units ≡ all_digits (drop l.unit-index l.units)
