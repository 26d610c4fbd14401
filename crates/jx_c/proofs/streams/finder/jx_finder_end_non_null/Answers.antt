use Rattle.std.proofs.Common.{◌≡◌, subst, sym, ◌∙◌}
use Rattle.std.proofs.lemmas.Option.{same_Some}
use Rattle.jx_c.specs.Seeks.{HasSought, SeekingValue}
use Rattle.jx_c.proofs.streams.finder.jx_finder_end_non_null.Goals as goal

pub returns-in-Ok-clause-answers : goal.returns-in-Ok-clause-answers
returns-in-Ok-clause-answers c = λ s held _ settings pointers text h.
    let here : s ≡ c.into_inner.result = same_Some _ _ (sym held ∙ c.in-Some.ensures.taken) ∙ sym c.into_inner.ensures in
    c.in-Ok.ensures.answers settings pointers text (subst (λ (t : SeekingValue). HasSought settings pointers text t) here h)
