use Rattle.std.proofs.Common.{◌≡◌, ◌∙◌, rules, subst, sym}
use Rattle.std.proofs.lemmas.Result.{err_from_is_err_and}
use Rattle.jx_ends.specs.declared.report_fault.ReportFault.TheVariants as fault
use Rattle.jx_ends.proofs.Faults.{fault_is, same_fault}
use Rattle.jx_ndjson_report.specs.PassReports.{PassedLines}
use Rattle.jx_ndjson_report.proofs.Passes.{pass_due}
use Rattle.jx_ndjson_report.proofs.PassWrites.{due_at_fault, goes_on, lines_at_end, lines_at_fault, part_at_fault}
use Rattle.jx_ndjson_report.proofs.passing.write_all_due.Goals as goal

pub returns-in_err-write_due-in-Ok-clause-lines : goal.returns-in_err-write_due-in-Ok-clause-lines
returns-in_err-write_due-in-Ok-clause-lines g c = λ is.
    let task = c.args.task.now in
    let u = g.S.Source.remaining c.args.reader.now in
    let n = g.S.Source.remaining c.read.new.self in
    let w = g.W.Sink.contents c.args.writer.now in
    let e = g.E.Sink.contents c.args.report.now in
    let lines : PassedLines task u n w (g.W.Sink.contents c.loop.writer) e (g.E.Sink.contents c.loop.report) =
    lines_at_fault task (pass_due c.ended_lines_of_a_reader.ensures.told task) u (g.S.Source.remaining c.loop.reader) n w (g.W.Sink.contents c.loop.writer) e (g.E.Sink.contents c.loop.report)
    c.loop.passer _ c.loop.invariant.written c.in-Ok.ensures.bytes.0 in
    let p = err_from_is_err_and c.from_residual.result c.from_residual.ensures.1 in
    let memory : c.in_err-write_due-in-Ok.field-0.0 ≡ fault.Memory = sym p.2 ∙ fault_is c.from_residual.result p.0 fault.Memory p.1 is in
    let kept : c.write_due.new.writer ≡ c.loop.writer = c.in_err-write_due-in-Ok.ensures.unwritten (λ w. let e : fault.Memory ≡ fault.Write = sym memory ∙ w in absurd cc) in
    let quiet : c.write_due.new.report ≡ c.loop.report = c.in_err-write_due-in-Ok.ensures.untold (λ w. let e : fault.Memory ≡ fault.Write = sym memory ∙ w in absurd cc) in
    subst (λ x. PassedLines task u n w (g.W.Sink.contents x) e (g.E.Sink.contents c.write_due.new.report)) (sym kept)
    (subst (λ x. PassedLines task u n w (g.W.Sink.contents c.loop.writer) e (g.E.Sink.contents x)) (sym quiet) lines)

pub returns-in_err-write_due-in-Ok-clause-beginning : goal.returns-in_err-write_due-in-Ok-clause-beginning
returns-in_err-write_due-in-Ok-clause-beginning g c = λ is.
    let p = err_from_is_err_and c.from_residual.result c.from_residual.ensures.1 in
    part_at_fault c.args.task.now (g.S.Source.remaining c.args.reader.now) (g.S.Source.remaining c.loop.reader) (g.S.Source.remaining c.read.new.self)
    (g.W.Sink.contents c.args.writer.now) (g.W.Sink.contents c.loop.writer) (g.W.Sink.contents c.write_due.new.writer)
    (g.E.Sink.contents c.args.report.now) (g.E.Sink.contents c.loop.report) (g.E.Sink.contents c.write_due.new.report)
    c.loop.passer _ c.loop.invariant.written c.in-Ok.ensures.bytes.0
    (c.write_due.ensures.beginning (same_fault c.write_due.result c.from_residual.result c.in_err-write_due-in-Ok.field-0.0 p.0 fault.Write c.in_err-write_due-in-Ok.was p.1 p.2 is))

pub returns-in-Err-clause-due : goal.returns-in-Err-clause-due
returns-in-Err-clause-due g c = λ is.
    due_at_fault c.args.task.now (pass_due c.ended_lines_of_a_reader.ensures.told c.args.task.now) (g.S.Source.remaining c.args.reader.now) (g.S.Source.remaining c.loop.reader) (g.S.Source.remaining c.read.new.self)
    (g.W.Sink.contents c.args.writer.now) (g.W.Sink.contents c.loop.writer) (g.E.Sink.contents c.args.report.now) (g.E.Sink.contents c.loop.report)
    c.loop.passer c.loop.invariant.written c.in-Err.ensures.bytes

pub loop-preserved : goal.loop-preserved
loop-preserved g c = record {
  reader = search rules;
  writer = search rules;
  report = search rules;
  written = goes_on c.args.task.now (g.S.Source.remaining c.args.reader.now) (g.S.Source.remaining c.loop.reader) (g.S.Source.remaining c.read.new.self)
      (g.W.Sink.contents c.args.writer.now) (g.W.Sink.contents c.loop.writer) (g.W.Sink.contents c.write_due.new.writer)
      (g.E.Sink.contents c.args.report.now) (g.E.Sink.contents c.loop.report) (g.E.Sink.contents c.write_due.new.report)
      _ c.loop.passer c.write_due.new.passer c.loop.invariant.written c.in-Ok.ensures.bytes.0 c.in_ok-write_due-in-Ok.ensures.ok;
}

pub returns-clause-lines : goal.returns-clause-lines
returns-clause-lines g c = λ is.
    lines_at_end c.args.task.now (pass_due c.ended_lines_of_a_reader.ensures.told c.args.task.now) (g.S.Source.remaining c.args.reader.now) (g.S.Source.remaining c.loop.reader)
    (g.W.Sink.contents c.args.writer.now) (g.W.Sink.contents c.loop.writer) (g.E.Sink.contents c.args.report.now) (g.E.Sink.contents c.loop.report) c.loop.passer c.loop.invariant.written
