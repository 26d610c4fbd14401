use Rattle.std.proofs.Common.{◌≡◌, ◌∙◌, rules, subst, sym}
use Rattle.std.proofs.lemmas.Result.{err_from_is_err_and}
use Rattle.jx_ends.specs.declared.report_fault.ReportFault.TheVariants as fault
use Rattle.jx_ends.proofs.Faults.{fault_is, same_fault}
use Rattle.jx_drive.specs.Reports.{WroteInPart, WroteLines}
use Rattle.jx_drive.proofs.Writes.{due_at_fault, goes_on, lines_at_end, lines_at_fault, part_at_fault}
use Rattle.jx_drive.proofs.driver.write_all_due.Goals as goal

pub returns-in_err-write_due-in-Ok-clause-lines : goal.returns-in_err-write_due-in-Ok-clause-lines
returns-in_err-write_due-in-Ok-clause-lines g c = λ is.
    let task = c.args.task.now in
    let was = c.args.beside.now in
    let u = g.S.Source.remaining c.args.reader.now in
    let n = g.S.Source.remaining c.read.new.self in
    let w = g.W.Sink.contents c.args.writer.now in
    let lines : WroteLines (g.T.Reporter.is_due task was c.loop.beside) u n w (g.W.Sink.contents c.loop.writer) =
    lines_at_fault (g.T.Reporter.has_taken task was c.loop.beside) g.T.Reporter.ready g.T.Reporter.told (g.T.Reporter.is_due task was c.loop.beside) (c.what_waits_is_due.ensures.due task was c.loop.beside)
    u (g.S.Source.remaining c.loop.reader) n w (g.W.Sink.contents c.loop.writer) c.loop.reporter _ c.loop.invariant.written c.in-Ok.ensures.bytes.0 in
    let p = err_from_is_err_and c.from_residual.result c.from_residual.ensures.1 in
    let memory : c.in_err-write_due-in-Ok.field-0.0 ≡ fault.Memory = sym p.2 ∙ fault_is c.from_residual.result p.0 fault.Memory p.1 is in
    let kept : c.write_due.new.writer ≡ c.loop.writer = c.in_err-write_due-in-Ok.ensures.unwritten (λ w. let e : fault.Memory ≡ fault.Write = sym memory ∙ w in absurd cc) in
    let quiet : c.write_due.new.beside ≡ c.loop.beside = c.in_err-write_due-in-Ok.ensures.untold in
    subst (λ x. WroteLines (g.T.Reporter.is_due task was c.write_due.new.beside) u n w (g.W.Sink.contents x)) (sym kept)
    (subst (λ b. WroteLines (g.T.Reporter.is_due task was b) u n w (g.W.Sink.contents c.loop.writer)) (sym quiet) lines)

pub returns-in_err-write_due-in-Ok-clause-beginning :
    goal.returns-in_err-write_due-in-Ok-clause-beginning
returns-in_err-write_due-in-Ok-clause-beginning g c = λ is.
    let task = c.args.task.now in
    let was = c.args.beside.now in
    let u = g.S.Source.remaining c.args.reader.now in
    let n = g.S.Source.remaining c.read.new.self in
    let w = g.W.Sink.contents c.args.writer.now in
    let y = g.W.Sink.contents c.write_due.new.writer in
    let p = err_from_is_err_and c.from_residual.result c.from_residual.ensures.1 in
    let quiet : c.write_due.new.beside ≡ c.loop.beside = c.in_err-write_due-in-Ok.ensures.untold in
    subst (λ b. WroteInPart (g.T.Reporter.is_begun task was b) u n w y) (sym quiet)
    (part_at_fault (g.T.Reporter.has_taken task was c.loop.beside) g.T.Reporter.ready g.T.Reporter.told (g.T.Reporter.is_begun task was c.loop.beside)
    u (g.S.Source.remaining c.loop.reader) n w (g.W.Sink.contents c.loop.writer) y c.loop.reporter _ c.loop.invariant.written c.in-Ok.ensures.bytes.0
    (c.write_due.ensures.beginning (same_fault c.write_due.result c.from_residual.result c.in_err-write_due-in-Ok.field-0.0 p.0 fault.Write c.in_err-write_due-in-Ok.was p.1 p.2 is) was))

pub returns-in-Err-clause-due : goal.returns-in-Err-clause-due
returns-in-Err-clause-due g c = λ is.
    let task = c.args.task.now in
    let was = c.args.beside.now in
    due_at_fault (g.T.Reporter.has_taken task was c.loop.beside) g.T.Reporter.ready g.T.Reporter.told (g.T.Reporter.is_due task was c.loop.beside) (c.what_waits_is_due.ensures.due task was c.loop.beside)
    (g.S.Source.remaining c.args.reader.now) (g.S.Source.remaining c.loop.reader) (g.S.Source.remaining c.read.new.self)
    (g.W.Sink.contents c.args.writer.now) (g.W.Sink.contents c.loop.writer) c.loop.reporter c.loop.invariant.written c.in-Err.ensures.bytes

pub loop-preserved : goal.loop-preserved
loop-preserved g c = record {
  reader = search rules;
  writer = search rules;
  written = goes_on (g.T.Reporter.has_taken c.args.task.now c.args.beside.now c.write_due.new.beside) g.T.Reporter.ready g.T.Reporter.told (g.T.Reporter.has_taken c.args.task.now c.args.beside.now c.loop.beside)
      (g.S.Source.remaining c.args.reader.now) (g.S.Source.remaining c.loop.reader) (g.S.Source.remaining c.read.new.self)
      (g.W.Sink.contents c.args.writer.now) (g.W.Sink.contents c.loop.writer) (g.W.Sink.contents c.write_due.new.writer)
      _ c.loop.reporter c.write_due.new.reporter c.loop.invariant.written c.in-Ok.ensures.bytes.0 (c.in_ok-write_due-in-Ok.ensures.ok c.args.beside.now);
}

pub returns-clause-lines : goal.returns-clause-lines
returns-clause-lines g c = λ is.
    let task = c.args.task.now in
    let was = c.args.beside.now in
    lines_at_end (g.T.Reporter.has_taken task was c.loop.beside) g.T.Reporter.ready g.T.Reporter.told (g.T.Reporter.is_due task was c.loop.beside) (c.what_waits_is_due.ensures.due task was c.loop.beside)
    (g.S.Source.remaining c.args.reader.now) (g.S.Source.remaining c.loop.reader) (g.W.Sink.contents c.args.writer.now) (g.W.Sink.contents c.loop.writer) c.loop.reporter c.loop.invariant.written
