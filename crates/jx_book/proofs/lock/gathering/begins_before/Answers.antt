use Rattle.std.proofs.Common.{List, ap, arith}
use Rattle.jx_book.specs.Runs.{HeldValue}
use Rattle.jx_book.proofs.Aparts.{starts, at_any}
use Rattle.jx_book.proofs.lock.gathering.begins_before.Goals as goal

pub returns-clause-no : goal.returns-clause-no
returns-clause-no g c = λ no k d low.
    let xs : List (HeldValue g.row.S.Denot) = c.args.runs.now in
    let first = at_any xs 0 c.index-runs-0.result (omega arith) c.index-runs-0.is in
    omega (arith, starts xs c.requires 0 k d (omega arith) low, ap (λ (h : HeldValue g.row.S.Denot). h.span.start) (first d), c.run_begins_before.ensures.no no)
