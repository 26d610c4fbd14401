use Rattle.std.proofs.Common.{List, ℕ, ◌++◌, subst}
use Rattle.std.specs.Io.KnownBytes.{Appends}
use Rattle.jx_ndjson_report.specs.PassReports.{AppendsInPart}
use Rattle.jx_ndjson_report.proofs.Passes.{pass_due}
use Rattle.jx_ndjson_report.proofs.passing.write_due.Goals as goal

pub returns-in_err-write_both-clause-beginning : goal.returns-in_err-write_both-clause-beginning
returns-in_err-write_both-clause-beginning g c = λ is.
    let w = g.W.Sink.contents c.args.writer.now in
    let x = g.W.Sink.contents c.write_both.new.writer in
    let e = g.E.Sink.contents c.args.report.now in
    let f = g.E.Sink.contents c.write_both.new.report in
    record {
      more = c.feed.new.self.ready;
      tells = c.feed.new.self.teller.ready;
      wrote = subst (λ (l : List ℕ). AppendsInPart w x e f l c.feed.new.self.teller.ready) c.ready.ensures
          (subst (λ (l : List ℕ). AppendsInPart w x e f c.ready.result.now l) c.told.ensures c.in_err-write_both.ensures.part);
      due = λ text given said h. pass_due c.ended_lines_of_a_reader.ensures.told c.args.task.now (text ++ c.args.batch.now) given said c.feed.new.self (c.in_ok-feed.ensures text given said h);
    }

pub returns-clause-ok : goal.returns-clause-ok
returns-clause-ok g c =
    record {
      more = c.feed.new.self.ready;
      tells = c.feed.new.self.teller.ready;
      wrote = subst (λ (l : List ℕ). Appends (g.W.Sink.contents c.args.writer.now) (g.W.Sink.contents c.write_both.new.writer) l) c.ready.ensures c.in_ok-write_both.ensures.passed;
      says = subst (λ (l : List ℕ). Appends (g.E.Sink.contents c.args.report.now) (g.E.Sink.contents c.write_both.new.report) l) c.told.ensures c.in_ok-write_both.ensures.told;
      takes = λ text given said h. c.clear.ensures.taken c.args.task.now (text ++ c.args.batch.now) given said (c.in_ok-feed.ensures text given said h);
      none_wait = c.clear.ensures.ready;
      none_told = c.clear.ensures.told;
    }
