use Rattle.std.proofs.Common.{refl, arith}
use Rattle.jx_lex.specs.declared.alphabet.state.LexState.TheVariants as state
use Rattle.jx_lex.proofs.Going.{letter-led}
use Rattle.jx_lex.proofs.scanner.token_rest.letter.Goals as goal

pub returns-in-Zero-clause-led : goal.returns-in-Zero-clause-led
returns-in-Zero-clause-led c = letter-led c.args.text.now c.args.from c.args.state.now state.Zero (omega arith) c.in-Zero.is refl refl (c.is_letter.ensures.0 c.if-not-is_letter.false)

pub returns-in-Int-clause-led : goal.returns-in-Int-clause-led
returns-in-Int-clause-led c = letter-led c.args.text.now c.args.from c.args.state.now state.Int (omega arith) c.in-Int.is refl refl (c.is_letter.ensures.0 c.if-not-is_letter.false)

pub returns-in-Frac-clause-led : goal.returns-in-Frac-clause-led
returns-in-Frac-clause-led c = letter-led c.args.text.now c.args.from c.args.state.now state.Frac (omega arith) c.in-Frac.is refl refl (c.is_letter.ensures.0 c.if-not-is_letter.false)
