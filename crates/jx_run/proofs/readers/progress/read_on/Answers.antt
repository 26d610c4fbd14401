use Rattle.std.proofs.Common.{◌++◌, ℕ, List, subst}
use Rattle.std.proofs.Math.Seq.{take-length}
use Rattle.std.proofs.lemmas.Result.{IfOk-weaker}
use Rattle.jx_run.specs.ReaderInside.{IsReadTo}
use Rattle.jx_run.proofs.readers.progress.read_on.Goals as goal

pub returns-clause-reads : goal.returns-clause-reads
returns-clause-reads g c =
    IfOk-weaker c.read_beginning.result _ _
    (λ p reads settings start bytes at h.
    subst (λ (xs : List ℕ). IsReadTo settings start (bytes ++ xs) p (g.S.OpenStack.known c.read_beginning.new.stack)) (take-length c.args.slice.now) (reads settings start bytes at h))
    c.read_beginning.ensures.reads
