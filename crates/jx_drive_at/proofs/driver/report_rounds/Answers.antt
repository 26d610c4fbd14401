use Rattle.std.proofs.Common.{◌≡◌, Bool, false, true, rules, subst}
use Rattle.jx_drive_at.specs.inside.Rounds.{IsWrittenAt}
use Rattle.jx_drive_at.proofs.driver.report_rounds.Goals as goal

pub loop-preserved : goal.loop-preserved
loop-preserved g c = record {
  next = tt;
  finite = tt;
  writer = search rules;
  written =
      let more : c.in-Ok-true.field-0 ≡ true = search rules in
      subst
      (λ (b : Bool). IsWrittenAt (g.T.Reporter.has_taken c.args.task.now c.args.beside.now c.report_round.new.beside) g.T.Reporter.ready g.T.Reporter.told (g.F.SharedAt.content c.args.file.now) b
      (g.W.Sink.contents c.args.writer.now) (g.W.Sink.contents c.report_round.new.writer) c.report_round.new.reporter) more
      (c.in-Ok-true.ensures.ok c.args.beside.now (g.W.Sink.contents c.args.writer.now) c.loop.invariant.written);
}

pub returns-in-Ok-false-clause-ok : goal.returns-in-Ok-false-clause-ok
returns-in-Ok-false-clause-ok g c =
    let none : c.in-Ok-false.field-0 ≡ false = search rules in
    subst
    (λ (b : Bool). IsWrittenAt (g.T.Reporter.has_taken c.args.task.now c.args.beside.now c.report_round.new.beside) g.T.Reporter.ready g.T.Reporter.told (g.F.SharedAt.content c.args.file.now) b
    (g.W.Sink.contents c.args.writer.now) (g.W.Sink.contents c.report_round.new.writer) c.report_round.new.reporter) none
    (c.in-Ok-false.ensures.ok c.args.beside.now (g.W.Sink.contents c.args.writer.now) c.loop.invariant.written)
