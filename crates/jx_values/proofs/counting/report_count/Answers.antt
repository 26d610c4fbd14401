use Rattle.std.proofs.Common.{refl}
use Rattle.jx_each.specs.declared.content.LineContent.TheVariants.{Empty}
use Rattle.jx_ends.specs.declared.report_fault.ReportFault.TheVariants as fault
use Rattle.jx_ends.proofs.Faults.{same_fault}
use Rattle.jx_values.proofs.ElementCounts.{count_in_part, reports_count}
use Rattle.jx_values.proofs.counting.report_count.Goals as goal

pub returns-in-Ok-write_count-clause-ok : goal.returns-in-Ok-write_count-clause-ok
returns-in-Ok-write_count-clause-ok g c =
    reports_count c.args.settings.now c.args.pointer.now (g.S.Source.remaining c.args.reader.now) (g.S.Source.remaining c.count_elements.new.reader) c.in-Ok.counted.count (g.E.Sink.has_failed c.count_elements.new.errors) (g.E.Sink.contents c.args.errors.now) (g.E.Sink.contents c.count_elements.new.errors)
    (c.lines_due_of_a_text.ensures.all_by Empty c.args.settings.now) (g.W.Sink.contents c.args.writer.now) (g.W.Sink.contents c.write_count.new.writer) c.in-Ok.counted.exit c.in-Ok.ensures.ok c.in-Ok-write_count.ensures.ok

pub returns-in-Err-write_count-clause-beginning : goal.returns-in-Err-write_count-clause-beginning
returns-in-Err-write_count-clause-beginning g c = λ is.
    count_in_part c.args.settings.now c.args.pointer.now (g.S.Source.remaining c.args.reader.now) (g.S.Source.remaining c.count_elements.new.reader) c.in-Ok.counted.count (g.E.Sink.has_failed c.count_elements.new.errors) (g.E.Sink.contents c.args.errors.now) (g.E.Sink.contents c.count_elements.new.errors)
    (c.lines_due_of_a_text.ensures.all_by Empty c.args.settings.now) (g.W.Sink.contents c.args.writer.now) (g.W.Sink.contents c.write_count.new.writer) c.in-Ok.counted.exit c.in-Ok.ensures.ok
    (c.write_count.ensures.beginning (same_fault c.write_count.result _ c.in-Err-write_count.fault c.in-Err-write_count.fault fault.Write c.in-Err-write_count.is refl refl is))
