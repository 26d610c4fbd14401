use Rattle.std.proofs.Common.{◌≡◌, subst, sym, ◌∙◌}
use Rattle.std.proofs.lemmas.Option.{same_Some}
use Rattle.jx_c.specs.Values.{HasStreamed, StreamValue}
use Rattle.jx_c.proofs.streams.values.jx_values_end_non_null.Goals as goal

pub returns-in-Ok-clause-told : goal.returns-in-Ok-clause-told
returns-in-Ok-clause-told c = λ s held _ settings pointer input given h.
    let here : s ≡ c.into_inner.result = same_Some _ _ (sym held ∙ c.in-Some.ensures.taken) ∙ sym c.into_inner.ensures in
    c.in-Ok.ensures settings pointer input given (subst (λ (t : StreamValue). HasStreamed settings pointer input given t) here h)
