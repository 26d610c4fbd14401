use Rattle.std.proofs.Common.{subst, sym}
use Rattle.jx_drive_at.specs.ReportsAt.{ReadsOn}
use Rattle.jx_line_values.specs.declared.task.LineValuesTask.{LineValuesTask}
use Rattle.jx_line_values.specs.Reports.{ToldDue}
use Rattle.jx_line_values.specs.inside.ValuesTeller.{HasRead, HasTold}
use Rattle.jx_line_values.proofs.Tells.{due_at_start, due_of_nothing, reads_on}
use Rattle.jx_line_values.proofs.reporting_at.report_line_values_at.Goals as goal

pub returns-in_default-clause-due : goal.returns-in_default-clause-due
returns-in_default-clause-due g c = λ _.
    let task = c.args.task.now in
    let lost = g.E.Sink.has_failed c.args.errors.now in
    let e = g.E.Sink.contents c.args.errors.now in
    due_at_start (ToldDue task lost e e) (g.F.SharedAt.content c.args.file.now) (g.W.Sink.contents c.args.writer.now) (due_of_nothing task lost e)

pub returns-in_default-new-clause-due : goal.returns-in_default-new-clause-due
returns-in_default-new-clause-due g c = λ _.
    let task = c.args.task.now in
    let lost = g.E.Sink.has_failed c.args.errors.now in
    let e = g.E.Sink.contents c.args.errors.now in
    due_at_start (ToldDue task lost e e) (g.F.SharedAt.content c.args.file.now) (g.W.Sink.contents c.args.writer.now) (due_of_nothing task lost e)

pub report_by_rounds-requires-clause-reads : goal.report_by_rounds-requires-clause-reads
report_by_rounds-requires-clause-reads g c = λ κs order was now bytes given old h.
    let task = c.args.task.now in
    subst
    (λ (r : LineValuesTask). ReadsOn (HasRead r) (λ xs. HasTold task (g.E.Sink.has_failed now) (g.E.Sink.contents was) (g.E.Sink.contents now) xs given) bytes old)
    (sym c.in-Ok.ensures) (reads_on task (g.E.Sink.has_failed now) (g.E.Sink.contents was) (g.E.Sink.contents now) bytes given old h)

pub report_by_rounds-requires-clause-taken : goal.report_by_rounds-requires-clause-taken
report_by_rounds-requires-clause-taken g c = λ κs order. c.in-Ok-new.ensures.taken (g.E.Sink.has_failed c.args.errors.now) (g.E.Sink.contents c.args.errors.now)
