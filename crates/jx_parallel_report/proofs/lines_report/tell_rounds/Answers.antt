use Rattle.std.proofs.Common.{◌≡◌, List, ℕ, false, rules}
use Rattle.std.specs.Prelude.{Option}
use Rattle.std.proofs.lemmas.Result.{err_from_is_err_and}
use Rattle.jx_parallel_report.specs.inside.Lines.{AfterFault, IsTold}
use Rattle.jx_parallel_report.proofs.Lines.{handed}
use Rattle.jx_parallel_report.proofs.lines_report.tell_rounds.Goals as goal

pub loop-preserved : goal.loop-preserved
loop-preserved g c = record {
  next = tt;
  finite = tt;
  room = search rules;
  round = search rules;
  writer = search rules;
  none_wait = search rules;
  told = c.in_ok-more.ensures.told (g.W.Sink.contents c.args.writer.now) c.loop.invariant.told;
}

pub returns-then-not-more-clause-told : goal.returns-then-not-more-clause-told
returns-then-not-more-clause-told g c = c.in_ok-more.ensures.told (g.W.Sink.contents c.args.writer.now) c.loop.invariant.told

pub returns-then-not-more-clause-end : goal.returns-then-not-more-clause-end
returns-then-not-more-clause-end g c =
    let none : c.in_ok-more.more ≡ false = search rules in
    c.in_ok-more.ensures.end none

pub returns-in_err-more-clause-fault : goal.returns-in_err-more-clause-fault
returns-in_err-more-clause-fault g c =
    let rule = c.args.rule.now in
    let known = g.F.SharedAt.content c.args.file.now in
    let task = c.args.task.now in
    let may = g.F.SharedAt.may_fail c.args.file.now in
    let y = g.W.Sink.contents c.tell_round.new.writer in
    let p = err_from_is_err_and c.from_residual.result c.from_residual.ensures.1 in
    handed
    (λ fault. (written : Option (List ℕ)) → IsTold g.K.Asked.settings g.K.Asked.told rule known written (g.W.Sink.contents c.loop.writer) c.loop.reader.tally → AfterFault task known may written y fault)
    (AfterFault task known may (g.W.Sink.contents c.args.writer.now) y)
    c.tell_round.result c.from_residual.result c.in_err-more.field-0.0 p.0 (λ fault after. after (g.W.Sink.contents c.args.writer.now) c.loop.invariant.told)
    c.tell_round.ensures.fault c.in_err-more.was p.1 p.2
