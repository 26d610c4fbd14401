use Rattle.std.proofs.Common.{subst, sym}
use Rattle.jx_lex.specs.Seen.{EndsAtComma}
use Rattle.jx_lex.proofs.Keeping.{ends-zero, ends-int, ends-frac, ends-exp}
use Rattle.jx_lex.proofs.scanner.may_end.Goals as goal

pub returns-in-Zero-clause-comma : goal.returns-in-Zero-clause-comma
returns-in-Zero-clause-comma c = λ yes. subst (λ s. EndsAtComma s) (sym c.in-Zero.is) ends-zero

pub returns-in-Int-clause-comma : goal.returns-in-Int-clause-comma
returns-in-Int-clause-comma c = λ yes. subst (λ s. EndsAtComma s) (sym c.in-Int.is) ends-int

pub returns-in-Frac-clause-comma : goal.returns-in-Frac-clause-comma
returns-in-Frac-clause-comma c = λ yes. subst (λ s. EndsAtComma s) (sym c.in-Frac.is) ends-frac

pub returns-in-Exp-clause-comma : goal.returns-in-Exp-clause-comma
returns-in-Exp-clause-comma c = λ yes. subst (λ s. EndsAtComma s) (sym c.in-Exp.is) ends-exp
