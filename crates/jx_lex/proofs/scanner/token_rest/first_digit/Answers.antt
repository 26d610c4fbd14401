use Rattle.std.proofs.Common.{arith}
use Rattle.jx_lex.proofs.Going.{minus_zero, minus_digit}
use Rattle.jx_lex.proofs.scanner.token_rest.first_digit.Goals as goal

pub returns-in-Minus-clause-led : goal.returns-in-Minus-clause-led
returns-in-Minus-clause-led c = minus_zero c.args.text.now c.args.from c.args.state.now (omega arith) c.in-Minus.is c.if-digit-eq48.true

pub returns-in-Minus-2-clause-led : goal.returns-in-Minus-2-clause-led
returns-in-Minus-2-clause-led c = minus_digit c.args.text.now c.args.from c.args.state.now (omega arith) c.in-Minus-2.is c.if-digit-ge49.true c.if-digit-le57.true
