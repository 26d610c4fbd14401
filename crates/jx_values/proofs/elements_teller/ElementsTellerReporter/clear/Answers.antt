use Rattle.std.proofs.Common.{List, ℕ, refl, ap, ◌∙◌}
use Rattle.jx_values.specs.NameTexts.{Texts}
use Rattle.jx_values.proofs.ElementsTold.{clears}
use Rattle.jx_values.proofs.elements_teller.ElementsTellerReporter.clear.Goals as goal

pub returns-clause-taken : goal.returns-clause-taken
returns-clause-taken g c = λ task was bytes given h.
    let old = c.args.self.now in (
      c.tell.ensures.none (c.deref.ensures.value ∙ h.1.made.none_told) ∙ h.0,
      clears task.by_texts task.content task.settings task.pointer.now bytes given old h.1 _ refl
          (ap (λ (l : List ℕ). let u : Texts = record { part = old.showing.part.items; lines = l; lone = old.showing.has_lone } in u) c.clear-2.ensures.items)
          c.clear.ensures.items refl c.clear_ready.ensures.reader c.clear_ready.ensures.ready (λ lines. c.clear_ready.ensures.taken_by task.content task.pointer.now bytes lines),
    )
