use Rattle.std.proofs.Common.{ℕ, List, ◌++◌, ◌∷◌, [], take, refl, sym, subst}
use Rattle.std.specs.Prelude.{Option}
use Rattle.jx_run.specs.declared.sequences.element_verdict.JudgedElement.{JudgedElement}
use Rattle.jx_run.specs.SequenceRead.{listed}
use Rattle.jx_ndjson.specs.ElementReading.{ElementReaderValue, HasToldElements}
use Rattle.jx_ndjson_report.specs.declared.task.ElementsTask.{ElementsTask}
use Rattle.jx_ndjson_report.specs.inside.ElementTeller.{ElementTellerValue, HasTaken}
use Rattle.jx_ndjson_report.proofs.ElementTakes.{element_takes_none, element_takes_one}
use Rattle.jx_ndjson_report.proofs.element_teller.ElementTellerStepTaker.take_step.Goals as goal

pub returns-in-None-clause-taken : goal.returns-in-None-clause-taken
returns-in-None-clause-taken c = λ bytes given h.
    let i = c.self.inside in
    let task : ElementsTask = c.args.task.now in
    let more : List ℕ = take c.in_ok-step.step.taken c.args.slice.now in
    let r : ElementTellerValue = record { elements = i.elements; exit = i.exit; ready = i.ready.items } in
    element_takes_none task bytes more given r _ (subst (λ (v : ElementTellerValue). HasTaken task bytes given v) (sym c.self.view_is) h) refl refl
    (λ settings input told o. subst (λ (l : Option JudgedElement). HasToldElements settings (input ++ more) (told ++ listed l) c.feed.new.self) c.in-None.is (c.in_ok-step.ensures.told settings input told o))

pub returns-in_ok-tell-in-Some-clause-taken : goal.returns-in_ok-tell-in-Some-clause-taken
returns-in_ok-tell-in-Some-clause-taken c = λ bytes given h.
    let i = c.self.inside in
    let task : ElementsTask = c.args.task.now in
    let more : List ℕ = take c.in_ok-step.step.taken c.args.slice.now in
    let j : JudgedElement = c.in-Some.element in
    let r : ElementTellerValue = record { elements = i.elements; exit = i.exit; ready = i.ready.items } in
    element_takes_one task bytes more given j r c.tell.new.self (subst (λ (v : ElementTellerValue). HasTaken task bytes given v) (sym c.self.view_is) h)
    c.in_ok-tell-in-Some.ensures.exit c.in_ok-tell-in-Some.ensures.ready
    (λ settings input told o.
    subst (λ (v : ElementReaderValue). HasToldElements settings (input ++ more) (told ++ j ∷ []) v) (sym c.in_ok-tell-in-Some.ensures.elements)
    (subst (λ (l : Option JudgedElement). HasToldElements settings (input ++ more) (told ++ listed l) c.feed.new.self) c.in-Some.is (c.in_ok-step.ensures.told settings input told o)))
