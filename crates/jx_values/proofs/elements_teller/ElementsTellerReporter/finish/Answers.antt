use Rattle.std.proofs.Common.{refl, ap, subst, sym, ◌∙◌}
use Rattle.std.specs.Prelude.{Option}
use Rattle.jx_find.specs.declared.finder.Finder.{Finder}
use Rattle.jx_values.specs.Values.{exit_by}
use Rattle.jx_values.specs.inside.Sought.{HasSought, any_names}
use Rattle.jx_values.proofs.ElementsTold.{ends}
use Rattle.jx_values.proofs.elements_teller.ElementsTellerReporter.finish.Goals as goal

pub returns : goal.returns
returns g c = record {
  ended = λ was now bytes given h.
      let task = c.args.task.now in (
        h.0,
        ends task.by_texts task.content task.settings task.pointer.now bytes given c.args.self.now h.1 (c.lines_taken_and_waiting.ensures.due_by task.content) _ c.verdict_of-verdict.result c.in_ok-said.said.items c.exit_by.result refl refl
            (λ pointer bytes given. c.verdict_of-verdict.ensures task.content pointer bytes given)
            (λ text given taken looked. c.in_ok-said.ensures text given taken (subst (λ (f : Option Finder). HasSought task.content (any_names c.args.self.now.each.reader.settings) task.pointer.now text f) (sym c.take-sought.ensures.value) looked))
            c.in_ok-self.ensures
            (c.exit_by.ensures ∙ ap exit_by c.deref.ensures.value),
      );
}
