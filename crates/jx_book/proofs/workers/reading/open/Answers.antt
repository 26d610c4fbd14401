use Rattle.std.proofs.Common.{List}
use Rattle.jx_book.specs.declared.workers.reading.Job.{Job}
use Rattle.jx_book.specs.inside.Balance.{IsFresh}
use Rattle.jx_book.proofs.Alls.{front_of}
use Rattle.jx_book.proofs.workers.reading.open.Goals as goal

pub returns-clause-others : goal.returns-clause-others
returns-clause-others g c =
    let J = Job g.row.P.Denot g.row.T.Denot in
    let fresh : J → Type 0 = IsFresh c.in_ok-claims.claims.id in
    let all : List J = c.in_ok-others.others.items in
    let front : List J = c.pop.new.self.items in
    front_of fresh all front c.in-Some.first c.in-Some.ensures.items c.in_ok-others.ensures.jobs
