use Rattle.std.proofs.Common.{rules, ◌≡◌, Some, subst, sym, ◌∙◌}
use Rattle.std.proofs.lemmas.Option.{same_Some}
use Rattle.jx_c.specs.Opened.{AreOthers, IsGiven, IsOfNone}
use Rattle.jx_c.specs.declared.saving.opened.OpenedIndex.{OpenedIndex}
use Rattle.jx_c.proofs.saving.saved.jx_saved_give_non_null.Goals as goal

pub returns-clause-given : goal.returns-clause-given
returns-clause-given c = λ s held ok.
    let here : s ≡ c.deref_mut.result.now = same_Some _ _ (sym held ∙ c.in-Some.ensures.taken) ∙ sym c.deref_mut.ensures.value in
    let put : c.replace-2.new.self.held ≡ Some c.give-status.new.self = search rules in
    (c.give-status.new.self, put, subst (λ (t : OpenedIndex). IsGiven t c.args.bytes.now c.give-status.new.self) (sym here) (c.give-status.ensures.given ok))

pub returns-clause-changed : goal.returns-clause-changed
returns-clause-changed c = λ s held is.
    let here : s ≡ c.deref_mut.result.now = same_Some _ _ (sym held ∙ c.in-Some.ensures.taken) ∙ sym c.deref_mut.ensures.value in
    subst (λ (t : OpenedIndex). AreOthers t.saved t.work c.args.bytes.now) (sym here) (c.give-status.ensures.changed is)

pub returns-clause-damaged : goal.returns-clause-damaged
returns-clause-damaged c = λ s held is.
    let here : s ≡ c.deref_mut.result.now = same_Some _ _ (sym held ∙ c.in-Some.ensures.taken) ∙ sym c.deref_mut.ensures.value in
    subst (λ (t : OpenedIndex). IsOfNone t.saved t.work c.args.bytes.now) (sym here) (c.give-status.ensures.damaged is)
