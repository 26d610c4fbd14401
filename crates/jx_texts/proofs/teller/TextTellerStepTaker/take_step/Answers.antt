use Rattle.std.proofs.Common.{ℕ, List, ◌++◌, take, sym, subst, ap, ◌∙◌}
use Rattle.jx_ends.specs.declared.exit.Exit.{Exit}
use Rattle.jx_texts.specs.declared.task.TextsTask.{TextsTask}
use Rattle.jx_texts.specs.Output.{exit_past, lines_of}
use Rattle.jx_texts.specs.Reading.{HasTold, TextReaderValue, listed}
use Rattle.jx_texts.specs.inside.TextTeller.{HasTaken, TextTellerValue}
use Rattle.jx_texts.proofs.Takes.{takes}
use Rattle.jx_texts.proofs.teller.TextTellerStepTaker.take_step.Goals as goal

pub returns-clause-taken : goal.returns-clause-taken
returns-clause-taken c = λ bytes given h.
    let i = c.self.inside in
    let task : TextsTask = c.args.task.now in
    let r : TextTellerValue = record { texts = i.texts; exit = i.exit; ready = i.ready.items } in
    let more : List ℕ = take c.in_ok-step.step.taken c.args.slice.now in
    takes task bytes more given (listed c.in_ok-step.step.ended) (listed c.in_ok-step.step.refused) r c.tell-2.new.self
    (subst (λ (v : TextTellerValue). HasTaken task bytes given v) (sym c.self.view_is) h)
    (λ told o.
    subst (λ (v : TextReaderValue). HasTold task.depth 0 (bytes ++ more) (told ++ (listed c.in_ok-step.step.ended ++ listed c.in_ok-step.step.refused)) v)
    (sym (c.tell-2.ensures.texts ∙ c.tell.ensures.texts))
    (c.in_ok-step.ensures.told task.depth 0 bytes told o))
    (c.in_ok-tell-2.ensures.ready ∙ ap (λ (xs : List ℕ). xs ++ lines_of task (listed c.in_ok-step.step.refused)) c.in_ok-tell.ensures.ready)
    (c.in_ok-tell-2.ensures.exit ∙ ap (λ (x : Exit). exit_past x (listed c.in_ok-step.step.refused)) c.in_ok-tell.ensures.exit)
