use Rattle.std.proofs.Common.{arith}
use Rattle.jx_lex.proofs.Going.{minus_sign, plus_sign}
use Rattle.jx_lex.proofs.scanner.token_rest.sign.Goals as goal

pub returns-in-E-clause-led : goal.returns-in-E-clause-led
returns-in-E-clause-led c = minus_sign c.args.text.now c.args.from c.args.state.now (omega arith) c.in-E.is c.if-sign-eq45.true

pub returns-in-E-2-clause-led : goal.returns-in-E-2-clause-led
returns-in-E-2-clause-led c = plus_sign c.args.text.now c.args.from c.args.state.now (omega arith) c.in-E-2.is c.if-sign-eq43.true
