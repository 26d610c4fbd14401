use Rattle.std.proofs.Common.{sym, subst}
use Rattle.jx_run.specs.SeqRun.{IsSeqRun}
use Rattle.jx_run.proofs.runs.seq_run.SeqRunSummary.join.Goals as goal

pub returns-in-Ok-clause-of : goal.returns-in-Ok-clause-of
returns-in-Ok-clause-of c xs ys h k =
    c.in-Ok.ensures.of xs ys (subst (IsSeqRun xs) (sym c.self.view_is) h) (subst (IsSeqRun ys) (sym c.right.view_is) k)
