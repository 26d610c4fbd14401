use Rattle.std.proofs.Common.{rules, List, sym, subst}
use Rattle.std.specs.Prelude.{All}
use Rattle.std.specs.declared.result.Result.{Result}
use Rattle.std.proofs.lemmas.List.Elements.{All-push}
use Rattle.jx_book.specs.declared.workers.worker.WorkerEnd.{WorkerEnd}
use Rattle.jx_book.specs.declared.workers.worker.WorkerStop.{WorkerStop}
use Rattle.jx_book.specs.inside.Balance.{Balances}
use Rattle.jx_book.proofs.workers.reading.all_ends.Goals as goal

pub returns-clause-each : goal.returns-clause-each
returns-clause-each g c =
    let E = Result (WorkerEnd g.row.P.Denot g.row.T.Denot) (WorkerStop g.row.S.Denot g.row.P.Denot g.row.T.Denot) in
    let fair : E → Type 0 = Balances c.args.cutting.now.pieces c.args.claims.now.id in
    let others : List E = c.in_ok-all.all.items in
    let each : All fair others = search rules in
    subst (All fair) (sym c.in_ok-push.ensures.items) (All-push fair others c.args.first each c.requires.first)
