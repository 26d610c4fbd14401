use Rattle.std.proofs.Common.{arith}
use Rattle.jx_lex.proofs.Going.{zero_point, int_point}
use Rattle.jx_lex.proofs.scanner.token_rest.point.Goals as goal

pub returns-in-Zero-clause-led : goal.returns-in-Zero-clause-led
returns-in-Zero-clause-led c = zero_point c.args.text.now c.args.from c.args.state.now (omega arith) c.in-Zero.is c.if-text-from-ne46.false c.if-text-from-lt48.false c.if-text-from-gt57.false

pub returns-in-Int-clause-led : goal.returns-in-Int-clause-led
returns-in-Int-clause-led c = int_point c.args.text.now c.args.from c.args.state.now (omega arith) c.in-Int.is c.if-text-from-ne46.false c.if-text-from-lt48.false c.if-text-from-gt57.false
