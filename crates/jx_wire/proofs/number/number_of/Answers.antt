use Rattle.std.proofs.Common.{arith, sym, ap, ◌∙◌, ◌+◌, ◌*◌, min}
use Rattle.jx_wire.proofs.NumberSteps.{one_digit}
use Rattle.jx_wire.proofs.number.number_of.Goals as goal

pub loop-digit-preserved : goal.loop-digit-preserved
loop-digit-preserved c =
    one_digit c.args.digits.now c.loop-digit.digit-index c.loop-digit.number c.min-number.result (omega arith)
    (sym c.is_ascii_digit.ensures.value ∙ c.if-not-is_ascii_digit.false) c.loop-digit.invariant.0 c.loop-digit.invariant.1
    (c.min-number.ensures ∙ ap (λ k. min (c.loop-digit.number * 10 + k) 4294967296) c.from.ensures)
