use Rattle.jx_lex.specs.declared.alphabet.state.LexState.TheVariants as state
use Rattle.jx_lex.proofs.Going.{kept_at, leads-none}
use Rattle.jx_lex.proofs.scanner.token_rest.more_digits.Goals as goal

pub returns-in-Int-clause-led : goal.returns-in-Int-clause-led
returns-in-Int-clause-led c = kept_at c.args.state state.Int _ c.in-Int.is c.digit_end.ensures.int

pub returns-in-Frac-clause-led : goal.returns-in-Frac-clause-led
returns-in-Frac-clause-led c = kept_at c.args.state state.Frac _ c.in-Frac.is c.digit_end-in-Frac.ensures.frac

pub returns-in-Exp-clause-led : goal.returns-in-Exp-clause-led
returns-in-Exp-clause-led c = kept_at c.args.state state.Exp _ c.in-Exp.is c.digit_end-in-Exp.ensures.exp

pub returns-in_default-clause-led : goal.returns-in_default-clause-led
returns-in_default-clause-led c = leads-none c.args.text.now c.args.from c.args.state
