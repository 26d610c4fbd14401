use Rattle.std.proofs.Common.{sym, subst, ap, ◌∙◌}
use Rattle.jx_texts.specs.declared.task.TextsTask.{TextsTask}
use Rattle.jx_texts.specs.Reading.{HasTold, listed}
use Rattle.jx_texts.specs.inside.TextTeller.{TextTellerValue}
use Rattle.jx_texts.proofs.Takes.{ends_with}
use Rattle.jx_texts.proofs.teller.TextTellerReporterUnit.finish.Goals as goal

pub returns : goal.returns
returns c = record {
  ended = λ was now bytes given h.
      let task : TextsTask = c.args.task.now in
      ends_with task bytes given _ (listed c.last_text-last.result) c.args.self.now _ h
      (λ told o. c.last_text-last.ensures task.depth 0 bytes told (subst (λ (v : TextTellerValue). HasTold task.depth 0 bytes told v.texts) (sym c.self.view_is) o))
      c.in_ok-tell.ensures.ready (ap (λ (v : TextTellerValue). v.exit) c.self-2.view_is ∙ c.in_ok-tell.ensures.exit);
}
