use Rattle.std.proofs.Common.{ℕ, List, subst}
use Rattle.std.proofs.Math.Seq.{take-length}
use Rattle.std.proofs.lemmas.Result.{IfOk-weaker}
use Rattle.jx_lex.specs.Lex.{lex}
use Rattle.jx_reduce.specs.Read.{read as read_marks}
use Rattle.jx_run.specs.ReaderInside.{GoesOn}
use Rattle.jx_run.proofs.readers.progress.read_all.Goals as goal

pub returns-clause-goes_on : goal.returns-clause-goes_on
returns-clause-goes_on g c =
    let s = c.args.state in
    let old = g.S.OpenStack.known c.args.stack.now in
    let new = g.S.OpenStack.known c.read_slice.new.stack in
    IfOk-weaker c.read_slice.result _ _
    (λ p goes marks h.
    subst (λ (xs : List ℕ). GoesOn old (lex s 0 xs) (read_marks old.depth (lex s 0 xs).marks old.reading) c.args.base p new) (take-length c.args.slice.now) (goes marks h))
    c.read_slice.ensures.goes_on
