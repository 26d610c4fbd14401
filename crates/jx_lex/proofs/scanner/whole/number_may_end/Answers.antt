use Rattle.std.proofs.Common.{subst, sym}
use Rattle.jx_lex.specs.Whole.{MayEnd}
use Rattle.jx_lex.proofs.Whole.{zero-ends, int-ends, frac-ends, exp-ends}
use Rattle.jx_lex.proofs.scanner.whole.number_may_end.Goals as goal

pub returns-in-Zero : goal.returns-in-Zero
returns-in-Zero c = λ yes. subst (λ s. MayEnd s) (sym c.in-Zero.is) zero-ends

pub returns-in-Int : goal.returns-in-Int
returns-in-Int c = λ yes. subst (λ s. MayEnd s) (sym c.in-Int.is) int-ends

pub returns-in-Frac : goal.returns-in-Frac
returns-in-Frac c = λ yes. subst (λ s. MayEnd s) (sym c.in-Frac.is) frac-ends

pub returns-in-Exp : goal.returns-in-Exp
returns-in-Exp c = λ yes. subst (λ s. MayEnd s) (sym c.in-Exp.is) exp-ends
