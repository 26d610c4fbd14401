use Rattle.std.proofs.lemmas.Result.{err_from_is_err_and}
use Rattle.jx_parallel_report.specs.inside.Lines.{AfterFault}
use Rattle.jx_parallel_report.proofs.Lines.{begun, due, handed}
use Rattle.jx_parallel_report.proofs.lines_report.report_lines_of.Goals as goal

pub returns-in_err-tell_rounds-clause-fault : goal.returns-in_err-tell_rounds-clause-fault
returns-in_err-tell_rounds-clause-fault g c =
    let after = AfterFault c.args.task.now (g.F.SharedAt.content c.args.file.now) (g.F.SharedAt.may_fail c.args.file.now) (g.W.Sink.contents c.args.writer.now) (g.W.Sink.contents c.tell_rounds.new.writer) in
    let p = err_from_is_err_and c.from_residual.result c.from_residual.ensures.1 in
    handed after after c.tell_rounds.result c.from_residual.result c.in_err-tell_rounds.field-0.0 p.0 (λ fault h. h) c.tell_rounds.ensures.fault c.in_err-tell_rounds.was p.1 p.2

pub returns-then-is_err-clause-fault : goal.returns-then-is_err-clause-fault
returns-then-is_err-clause-fault g c =
    let w = g.W.Sink.contents c.args.writer.now in
    let known = g.F.SharedAt.content c.args.file.now in
    let t = c.new-reader.result.tally in
    due g.K.Asked.settings g.K.Asked.told _ known c.ended_lines_of_a_reader.ensures.told c.args.task.now c.requires.settings c.requires.told w w t
    (begun g.K.Asked.settings g.K.Asked.told _ known w t c.new-reader.ensures.read) c.new-reader.ensures.none_wait
