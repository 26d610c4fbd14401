use Rattle.std.proofs.Common.{◌++◌, refl, sym, subst, ap}
use Rattle.std.specs.Prelude.{Option}
use Rattle.jx_run.specs.declared.sequences.element_verdict.JudgedElement.{JudgedElement}
use Rattle.jx_run.specs.SequenceRead.{listed}
use Rattle.jx_ndjson.specs.ElementReading.{AreJudgedElements, HasToldElements}
use Rattle.jx_ndjson_report.specs.declared.task.ElementsTask.{ElementsTask}
use Rattle.jx_ndjson_report.specs.inside.ElementTeller.{ElementTellerValue, HasTaken}
use Rattle.jx_ndjson_report.proofs.ElementTakes.{element_ends_so, element_ends_with}
use Rattle.jx_ndjson_report.proofs.element_teller.ElementTellerReporterUnit.finish.Goals as goal

pub returns-in-None : goal.returns-in-None
returns-in-None c = record {
  ended = λ was now bytes given h.
      element_ends_so c.args.task.now bytes given _ c.args.self.now _ h
      (λ settings input told o.
      subst (λ (l : Option JudgedElement). AreJudgedElements settings input (told ++ listed l)) c.in-None.is
      (c.last_element.ensures settings input told (subst (λ (v : ElementTellerValue). HasToldElements settings input told v.elements) (sym c.self.view_is) o)))
      refl (ap (λ (v : ElementTellerValue). v.exit) c.self.view_is);
}

pub returns-in_ok-add_told-in-Some : goal.returns-in_ok-add_told-in-Some
returns-in_ok-add_told-in-Some c = record {
  ended = λ was now bytes given h.
      let i = c.self.inside in
      let task : ElementsTask = c.args.task.now in
      let r : ElementTellerValue = record { elements = i.elements; exit = i.exit; ready = i.ready.items } in
      element_ends_with task bytes given _ c.in-Some.element r _ (subst (λ (v : ElementTellerValue). HasTaken task bytes given v) (sym c.self.view_is) h)
      (λ settings input told o. subst (λ (l : Option JudgedElement). AreJudgedElements settings input (told ++ listed l)) c.in-Some.is (c.last_element.ensures settings input told o))
      c.in_ok-add_told-in-Some.ensures c.exit_past.ensures;
}
