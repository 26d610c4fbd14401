use Rattle.std.proofs.Common.{List, ℕ, subst}
use Rattle.std.proofs.lemmas.Result.{err_from_is_err_and}
use Rattle.std.specs.Io.KnownBytes.{Appends}
use Rattle.jx_ends.specs.declared.report_fault.ReportFault.TheVariants as fault
use Rattle.jx_ends.specs.Ends.{AppendsBeginning}
use Rattle.jx_ends.proofs.Faults.{same_fault}
use Rattle.jx_drive.proofs.Writes.{as_written, lines_at_end, part_at_end, reports}
use Rattle.jx_drive.proofs.driver.report_by.Goals as goal

pub returns-in_err-write_all_due-clause-due : goal.returns-in_err-write_all_due-clause-due
returns-in_err-write_all_due-clause-due g c = λ is.
    let p = err_from_is_err_and c.from_residual-in_err-write_all_due.result c.from_residual-in_err-write_all_due.ensures.1 in
    c.write_all_due.ensures.due (same_fault c.write_all_due.result c.from_residual-in_err-write_all_due.result c.in_err-write_all_due.field-0.0 p.0 fault.Read c.in_err-write_all_due.was p.1 p.2 is)

pub returns-in_err-write_all_due-clause-lines : goal.returns-in_err-write_all_due-clause-lines
returns-in_err-write_all_due-clause-lines g c = λ is.
    let p = err_from_is_err_and c.from_residual-in_err-write_all_due.result c.from_residual-in_err-write_all_due.ensures.1 in
    c.write_all_due.ensures.lines (same_fault c.write_all_due.result c.from_residual-in_err-write_all_due.result c.in_err-write_all_due.field-0.0 p.0 fault.Memory c.in_err-write_all_due.was p.1 p.2 is)

pub returns-in_err-write_all_due-clause-beginning :
    goal.returns-in_err-write_all_due-clause-beginning
returns-in_err-write_all_due-clause-beginning g c = λ is.
    let p = err_from_is_err_and c.from_residual-in_err-write_all_due.result c.from_residual-in_err-write_all_due.ensures.1 in
    c.write_all_due.ensures.beginning (same_fault c.write_all_due.result c.from_residual-in_err-write_all_due.result c.in_err-write_all_due.field-0.0 p.0 fault.Write c.in_err-write_all_due.was p.1 p.2 is)

pub returns-in_err-exit-clause-lines : goal.returns-in_err-exit-clause-lines
returns-in_err-exit-clause-lines g c = λ is.
    let task = c.args.task.now in
    let was = c.args.beside.now in
    let b = c.write_all_due.new.beside in
    let u = g.S.Source.remaining c.args.reader.now in
    let n = g.S.Source.remaining c.write_all_due.new.reader in
    let w = g.W.Sink.contents c.args.writer.now in
    let x = g.W.Sink.contents c.write_all_due.new.writer in
    lines_at_end (g.T.Reporter.has_taken task was b) g.T.Reporter.ready g.T.Reporter.told (g.T.Reporter.is_due task was b) (c.what_waits_is_due.ensures.due task was b) u n w x c.write_all_due.new.reporter
    (as_written (g.T.Reporter.has_taken task was b) g.T.Reporter.ready g.T.Reporter.told u n w x c.write_all_due.new.reporter c.in_ok-write_all_due.ensures.ok)

pub returns-in_err-write_whole-clause-beginning : goal.returns-in_err-write_whole-clause-beginning
returns-in_err-write_whole-clause-beginning g c = λ is.
    let task = c.args.task.now in
    let was = c.args.beside.now in
    let b = c.write_all_due.new.beside in
    let u = g.S.Source.remaining c.args.reader.now in
    let n = g.S.Source.remaining c.write_all_due.new.reader in
    let w = g.W.Sink.contents c.args.writer.now in
    let x = g.W.Sink.contents c.write_all_due.new.writer in
    let y = g.W.Sink.contents c.write_whole.new.writer in
    part_at_end (g.T.Reporter.has_taken task was b) g.T.Reporter.ready g.T.Reporter.told (g.T.Reporter.is_begun task was b) u n w x y c.write_all_due.new.reporter (g.T.Reporter.ready c.finish.new.self) c.in_ok-write_all_due.ensures.ok
    (λ bytes given h. c.what_waits_is_due.ensures.ended task was b bytes given c.in_ok-exit.exit c.finish.new.self (c.in_ok-exit.ensures.ended was b bytes given h))
    (subst (λ (l : List ℕ). AppendsBeginning x y l) c.ready.ensures.ready c.in_err-write_whole.ensures.err)

pub returns-clause-ok : goal.returns-clause-ok
returns-clause-ok g c =
    let task = c.args.task.now in
    let was = c.args.beside.now in
    let b = c.write_all_due.new.beside in
    let u = g.S.Source.remaining c.args.reader.now in
    let n = g.S.Source.remaining c.write_all_due.new.reader in
    let w = g.W.Sink.contents c.args.writer.now in
    let x = g.W.Sink.contents c.write_all_due.new.writer in
    let y = g.W.Sink.contents c.write_whole.new.writer in
    reports (g.T.Reporter.has_taken task was b) g.T.Reporter.ready g.T.Reporter.told (g.T.Reporter.is_output task was c.clear.new.beside) u n w x y c.write_all_due.new.reporter (g.T.Reporter.ready c.finish.new.self) c.in_ok-exit.exit c.in_ok-write_all_due.ensures.ok
    (λ bytes given h. c.clear.ensures.output task was bytes given c.in_ok-exit.exit (c.in_ok-exit.ensures.ended was b bytes given h))
    (subst (λ (l : List ℕ). Appends x y l) c.ready.ensures.ready c.in_ok-write_whole.ensures.ok)
