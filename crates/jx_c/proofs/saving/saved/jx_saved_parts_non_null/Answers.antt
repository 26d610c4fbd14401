use Rattle.std.proofs.Common.{◌≡◌, subst, sym, ◌∙◌}
use Rattle.std.proofs.lemmas.Option.{same_Some}
use Rattle.jx_c.specs.Opened.{ArePartsIn, HasNoSuchContainer}
use Rattle.jx_c.specs.declared.saving.opened.OpenedIndex.{OpenedIndex}
use Rattle.jx_c.proofs.saving.saved.jx_saved_parts_non_null.Goals as goal

pub returns-clause-parts : goal.returns-clause-parts
returns-clause-parts c = λ s held ok.
    let here : s ≡ c.deref_mut.result.now = same_Some _ _ (sym held ∙ c.in-Some.ensures.taken) ∙ sym c.deref_mut.ensures.value in
    subst (λ (t : OpenedIndex). ArePartsIn t c.args.parts.now c.parts-status.new.parts c.parts-status.new.count) (sym here) (c.parts-status.ensures.parts ok)

pub returns-clause-damaged : goal.returns-clause-damaged
returns-clause-damaged c = λ s held is.
    let here : s ≡ c.deref_mut.result.now = same_Some _ _ (sym held ∙ c.in-Some.ensures.taken) ∙ sym c.deref_mut.ensures.value in
    subst (λ (t : OpenedIndex). HasNoSuchContainer t) (sym here) (c.parts-status.ensures.damaged is)
