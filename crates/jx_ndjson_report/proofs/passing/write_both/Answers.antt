use Rattle.std.proofs.lemmas.Result.{on_err_weaker}
use Rattle.jx_ndjson_report.proofs.PassWrites.{first_in_part, on_err_by, other_in_part}
use Rattle.jx_ndjson_report.proofs.passing.write_both.Goals as goal

pub returns-in_err-write_whole-clause-part : goal.returns-in_err-write_whole-clause-part
returns-in_err-write_whole-clause-part g c =
    on_err_by c.from_residual.result
    (first_in_part (g.W.Sink.contents c.args.writer.now) (g.W.Sink.contents c.write_whole.new.writer) (g.E.Sink.contents c.args.report.now) c.args.passed.now c.args.told.now c.in_err-write_whole.ensures.err)

pub returns-clause-part : goal.returns-clause-part
returns-clause-part g c =
    on_err_weaker c.write_whole-2.result
    (λ part. other_in_part (g.W.Sink.contents c.args.writer.now) (g.W.Sink.contents c.write_whole.new.writer) (g.E.Sink.contents c.args.report.now) (g.E.Sink.contents c.write_whole-2.new.writer) c.args.passed.now c.args.told.now c.in_ok-write_whole.ensures.ok part)
    c.write_whole-2.ensures.err
