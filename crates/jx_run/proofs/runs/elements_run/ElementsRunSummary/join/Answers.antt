use Rattle.std.proofs.Common.{sym, subst}
use Rattle.jx_run.specs.ElementsRun.{IsElementsRun}
use Rattle.jx_run.proofs.runs.elements_run.ElementsRunSummary.join.Goals as goal

pub returns-in-Ok-clause-of : goal.returns-in-Ok-clause-of
returns-in-Ok-clause-of c xs ys h k =
    c.in-Ok.ensures.of xs ys (subst (IsElementsRun xs) (sym c.self.view_is) h) (subst (IsElementsRun ys) (sym c.right.view_is) k)
