use Rattle.std.proofs.Common.{refl, arith}
use Rattle.jx_lex.specs.declared.alphabet.state.LexState.TheVariants as state
use Rattle.jx_lex.proofs.Going.{exponent_begun}
use Rattle.jx_lex.proofs.scanner.token_rest.exponent_digit.Goals as goal

pub returns-in-E-clause-led : goal.returns-in-E-clause-led
returns-in-E-clause-led c = exponent_begun c.args.text.now c.args.from c.args.state.now state.E (omega arith) c.in-E.is refl refl c.if-text-from-lt48.false c.if-text-from-gt57.false

pub returns-in-ESign-clause-led : goal.returns-in-ESign-clause-led
returns-in-ESign-clause-led c = exponent_begun c.args.text.now c.args.from c.args.state.now state.ESign (omega arith) c.in-ESign.is refl refl c.if-text-from-lt48.false c.if-text-from-gt57.false
