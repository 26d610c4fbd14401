use Rattle.jx_parallel_report.proofs.Lines.{beginning_after, due_after, reason_after}
use Rattle.jx_parallel_report.proofs.lines_report.report_lines_at.Goals as goal

pub returns-clause-read : goal.returns-clause-read
returns-clause-read g c =
    reason_after c.args.task.now (g.F.SharedAt.content c.args.file.now) (g.F.SharedAt.may_fail c.args.file.now) (g.W.Sink.contents c.args.writer.now)
    (g.W.Sink.contents c.report_lines_of.new.writer) c.report_lines_of.result c.report_lines_of.ensures.fault

pub returns-clause-due : goal.returns-clause-due
returns-clause-due g c =
    due_after c.args.task.now (g.F.SharedAt.content c.args.file.now) (g.F.SharedAt.may_fail c.args.file.now) (g.W.Sink.contents c.args.writer.now)
    (g.W.Sink.contents c.report_lines_of.new.writer) c.report_lines_of.result c.report_lines_of.ensures.fault

pub returns-clause-beginning : goal.returns-clause-beginning
returns-clause-beginning g c =
    beginning_after c.args.task.now (g.F.SharedAt.content c.args.file.now) (g.F.SharedAt.may_fail c.args.file.now) (g.W.Sink.contents c.args.writer.now)
    (g.W.Sink.contents c.report_lines_of.new.writer) c.report_lines_of.result c.report_lines_of.ensures.fault
