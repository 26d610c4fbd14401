use Rattle.jx_drive.proofs.Reports.{lines_at_start}
use Rattle.jx_line_values.specs.Reports.{ToldDue}
use Rattle.jx_line_values.proofs.Tells.{due_of_nothing}
use Rattle.jx_line_values.proofs.reporting.report_line_values.Goals as goal

pub returns-in_err-teller-clause-lines : goal.returns-in_err-teller-clause-lines
returns-in_err-teller-clause-lines g c = λ is.
    let task = c.args.task.now in
    let lost = g.E.Sink.has_failed c.args.errors.now in
    let e = g.E.Sink.contents c.args.errors.now in
    lines_at_start (ToldDue task lost e e) (g.S.Source.remaining c.args.reader.now) (g.W.Sink.contents c.args.writer.now) (due_of_nothing task lost e)

pub report_by-requires-clause-taken : goal.report_by-requires-clause-taken
report_by-requires-clause-taken g c = c.in_ok-teller.ensures.taken (g.E.Sink.has_failed c.args.errors.now) (g.E.Sink.contents c.args.errors.now)
