use Rattle.std.proofs.Common.{List, ℕ, false, subst}
use Rattle.jx_ends.specs.Ends.{AppendsBeginning}
use Rattle.jx_drive_at.proofs.InRounds.{in_part}
use Rattle.jx_drive_at.proofs.driver.write_end.Goals as goal

pub returns-in-Err-clause-fault : goal.returns-in-Err-clause-fault
returns-in-Err-clause-fault g c = λ was known written h.
    let task = c.args.task.now in
    let old = c.args.beside.now in
    let x = g.W.Sink.contents c.args.writer.now in
    let y = g.W.Sink.contents c.write_whole.new.writer in
    let end = c.finish.new.self in
    in_part (g.T.Reporter.has_taken task was old) g.T.Reporter.ready g.T.Reporter.told known (g.T.Reporter.is_begun task was old) false written x y c.args.reporter.now (g.T.Reporter.ready end)
    (λ bytes given t. c.what_waits_is_due.ensures.ended task was old bytes given c.in-Ok.exit end (c.in-Ok.ensures.ended was old bytes given t))
    h.taken (subst (λ (l : List ℕ). AppendsBeginning x y l) c.ready.ensures.ready c.in-Err.ensures.err)
