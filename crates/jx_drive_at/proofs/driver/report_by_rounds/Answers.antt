use Rattle.jx_drive_at.proofs.InRounds.{beginning_after, due_after, reason_after}
use Rattle.jx_drive_at.proofs.driver.report_by_rounds.Goals as goal

pub returns-clause-read : goal.returns-clause-read
returns-clause-read g c =
    reason_after (g.T.Reporter.is_due c.args.task.now c.args.beside.now c.report_of.new.beside) (g.T.Reporter.is_begun c.args.task.now c.args.beside.now c.report_of.new.beside)
    (g.F.SharedAt.content c.args.file.now) (g.F.SharedAt.may_fail c.args.file.now) (g.W.Sink.contents c.args.writer.now) (g.W.Sink.contents c.report_of.new.writer) c.report_of.result
    c.report_of.ensures.fault

pub returns-clause-due : goal.returns-clause-due
returns-clause-due g c =
    due_after (g.T.Reporter.is_due c.args.task.now c.args.beside.now c.report_of.new.beside) (g.T.Reporter.is_begun c.args.task.now c.args.beside.now c.report_of.new.beside)
    (g.F.SharedAt.content c.args.file.now) (g.F.SharedAt.may_fail c.args.file.now) (g.W.Sink.contents c.args.writer.now) (g.W.Sink.contents c.report_of.new.writer) c.report_of.result
    c.report_of.ensures.fault

pub returns-clause-beginning : goal.returns-clause-beginning
returns-clause-beginning g c =
    beginning_after (g.T.Reporter.is_due c.args.task.now c.args.beside.now c.report_of.new.beside) (g.T.Reporter.is_begun c.args.task.now c.args.beside.now c.report_of.new.beside)
    (g.F.SharedAt.content c.args.file.now) (g.F.SharedAt.may_fail c.args.file.now) (g.W.Sink.contents c.args.writer.now) (g.W.Sink.contents c.report_of.new.writer) c.report_of.result
    c.report_of.ensures.fault
