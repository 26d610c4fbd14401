use Rattle.std.proofs.Common.{◌≡◌, ◌<◌, ◌≤◌, drop, sym, arith}
use Rattle.std.proofs.lemmas.Bool.{ne_eqb}
use Rattle.jx_index.specs.ArrayTokens.{value_after}
use Rattle.jx_each.proofs.Numbers.{no_less}
use Rattle.jx_each.proofs.number.has_value.Goals as goal

pub returns-then-value-number : goal.returns-then-value-number
returns-then-value-number c =
    let rest = drop c.loop-unit.unit-index c.args.units.now in
    let least : c.loop-unit.value ≤ value_after c.loop-unit.value rest = no_less c.loop-unit.value rest in
    let more : c.args.number < c.loop-unit.value = c.if-value-number.true in
    let same : value_after 0 c.args.units.now ≡ value_after c.loop-unit.value rest = c.loop-unit.invariant.value in
    sym (ne_eqb (value_after 0 c.args.units.now) c.args.number (λ e. omega (arith, least, more, same, e)))
