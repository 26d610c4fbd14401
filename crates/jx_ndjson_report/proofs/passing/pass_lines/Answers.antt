use Rattle.std.proofs.Common.{List, ℕ, subst}
use Rattle.std.proofs.lemmas.Result.{err_from_is_err_and}
use Rattle.std.specs.Io.KnownBytes.{Appends}
use Rattle.jx_ends.specs.declared.report_fault.ReportFault.TheVariants as fault
use Rattle.jx_ends.proofs.Faults.{same_fault}
use Rattle.jx_ndjson_report.specs.PassReports.{AppendsInPart}
use Rattle.jx_ndjson_report.proofs.Passes.{pass_due}
use Rattle.jx_ndjson_report.proofs.PassWrites.{lines_at_end, part_at_end, reports, starts}
use Rattle.jx_ndjson_report.proofs.passing.pass_lines.Goals as goal

pub returns-in_err-buffer-clause-lines : goal.returns-in_err-buffer-clause-lines
returns-in_err-buffer-clause-lines g c = λ is.
    let task = c.args.task.now in
    let u = g.S.Source.remaining c.args.reader.now in
    let w = g.W.Sink.contents c.args.writer.now in
    let e = g.E.Sink.contents c.args.report.now in
    let p = c.new-passer.result in
    lines_at_end task (pass_due c.ended_lines_of_a_reader.ensures.told task) u u w w e e p (starts task u w e p c.new-passer.ensures.taken c.new-passer.ensures.ready c.new-passer.ensures.told)

pub returns-in_err-write_all_due-clause-due : goal.returns-in_err-write_all_due-clause-due
returns-in_err-write_all_due-clause-due g c = λ is.
    let p = err_from_is_err_and c.from_residual-in_err-write_all_due.result c.from_residual-in_err-write_all_due.ensures.1 in
    c.write_all_due.ensures.due (same_fault c.write_all_due.result c.from_residual-in_err-write_all_due.result c.in_err-write_all_due.field-0.0 p.0 fault.Read c.in_err-write_all_due.was p.1 p.2 is)

pub returns-in_err-write_all_due-clause-lines : goal.returns-in_err-write_all_due-clause-lines
returns-in_err-write_all_due-clause-lines g c = λ is.
    let p = err_from_is_err_and c.from_residual-in_err-write_all_due.result c.from_residual-in_err-write_all_due.ensures.1 in
    c.write_all_due.ensures.lines (same_fault c.write_all_due.result c.from_residual-in_err-write_all_due.result c.in_err-write_all_due.field-0.0 p.0 fault.Memory c.in_err-write_all_due.was p.1 p.2 is)

pub returns-in_err-write_all_due-clause-beginning :
    goal.returns-in_err-write_all_due-clause-beginning
returns-in_err-write_all_due-clause-beginning g c = λ is.
    let p = err_from_is_err_and c.from_residual-in_err-write_all_due.result c.from_residual-in_err-write_all_due.ensures.1 in
    c.write_all_due.ensures.beginning (same_fault c.write_all_due.result c.from_residual-in_err-write_all_due.result c.in_err-write_all_due.field-0.0 p.0 fault.Write c.in_err-write_all_due.was p.1 p.2 is)

pub returns-in_err-exit-clause-lines : goal.returns-in_err-exit-clause-lines
returns-in_err-exit-clause-lines g c = λ is.
    lines_at_end c.args.task.now (pass_due c.ended_lines_of_a_reader.ensures.told c.args.task.now) (g.S.Source.remaining c.args.reader.now) (g.S.Source.remaining c.write_all_due.new.reader)
    (g.W.Sink.contents c.args.writer.now) (g.W.Sink.contents c.write_all_due.new.writer) (g.E.Sink.contents c.args.report.now) (g.E.Sink.contents c.write_all_due.new.report)
    c.write_all_due.new.passer c.in_ok-write_all_due.ensures.ok.0

pub returns-in_err-write_both-clause-beginning : goal.returns-in_err-write_both-clause-beginning
returns-in_err-write_both-clause-beginning g c = λ is.
    let u = g.S.Source.remaining c.args.reader.now in
    let n = g.S.Source.remaining c.write_all_due.new.reader in
    let w = g.W.Sink.contents c.args.writer.now in
    let x = g.W.Sink.contents c.write_all_due.new.writer in
    let y = g.W.Sink.contents c.write_both.new.writer in
    let e = g.E.Sink.contents c.args.report.now in
    let f = g.E.Sink.contents c.write_all_due.new.report in
    let h = g.E.Sink.contents c.write_both.new.report in
    part_at_end c.args.task.now u n w x y e f h c.write_all_due.new.passer c.finish.new.self c.in_ok-exit.exit c.in_ok-write_all_due.ensures.ok c.in_ok-exit.ensures
    (subst (λ (l : List ℕ). AppendsInPart x y f h l c.finish.new.self.teller.ready) c.ready.ensures
    (subst (λ (l : List ℕ). AppendsInPart x y f h c.ready.result.now l) c.told.ensures c.in_err-write_both.ensures.part))

pub returns-clause-ok : goal.returns-clause-ok
returns-clause-ok g c =
    let u = g.S.Source.remaining c.args.reader.now in
    let n = g.S.Source.remaining c.write_all_due.new.reader in
    let w = g.W.Sink.contents c.args.writer.now in
    let x = g.W.Sink.contents c.write_all_due.new.writer in
    let y = g.W.Sink.contents c.write_both.new.writer in
    let e = g.E.Sink.contents c.args.report.now in
    let f = g.E.Sink.contents c.write_all_due.new.report in
    let h = g.E.Sink.contents c.write_both.new.report in
    reports c.args.task.now u n w x y e f h c.write_all_due.new.passer c.finish.new.self c.in_ok-exit.exit c.in_ok-write_all_due.ensures.ok c.in_ok-exit.ensures
    (subst (λ (l : List ℕ). Appends x y l) c.ready.ensures c.in_ok-write_both.ensures.passed)
    (subst (λ (l : List ℕ). Appends f h l) c.told.ensures c.in_ok-write_both.ensures.told)
