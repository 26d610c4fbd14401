use Rattle.std.proofs.Common.{◌≡◌, subst, sym, ◌∙◌}
use Rattle.std.proofs.lemmas.Option.{same_Some}
use Rattle.jx_c.specs.Opened.{AreAnswersIn, IsOfNoText}
use Rattle.jx_c.specs.declared.saving.opened.OpenedIndex.{OpenedIndex}
use Rattle.jx_c.proofs.saving.saved.jx_saved_answers_non_null.Goals as goal

pub returns-clause-answers : goal.returns-clause-answers
returns-clause-answers c = λ s held ok.
    let here : s ≡ c.deref_mut.result.now = same_Some _ _ (sym held ∙ c.in-Some.ensures.taken) ∙ sym c.deref_mut.ensures.value in
    subst (λ (t : OpenedIndex). AreAnswersIn t c.args.answers.now c.answers-status.new.answers) (sym here) (c.answers-status.ensures.answers ok)

pub returns-clause-damaged : goal.returns-clause-damaged
returns-clause-damaged c = λ s held is.
    let here : s ≡ c.deref_mut.result.now = same_Some _ _ (sym held ∙ c.in-Some.ensures.taken) ∙ sym c.deref_mut.ensures.value in
    subst (λ (t : OpenedIndex). IsOfNoText t) (sym here) (c.answers-status.ensures.damaged is)
