use Rattle.std.proofs.Common.{rules, ◌≡◌, Some, subst, sym, ◌∙◌}
use Rattle.std.proofs.lemmas.Option.{same_Some}
use Rattle.jx_c.specs.Seeks.{HasSought, SeekingValue}
use Rattle.jx_c.proofs.streams.finder.jx_finder_feed_non_null.Goals as goal

pub returns-in-Ok-clause-fed : goal.returns-in-Ok-clause-fed
returns-in-Ok-clause-fed c = λ s held _.
    let here : s ≡ c.deref_mut.result.now = same_Some _ _ (sym held ∙ c.in-Some.ensures.taken) ∙ sym c.deref_mut.ensures.value in
    let put : c.replace-in-Ok.new.self.held ≡ Some c.feed.new.self = search rules in
    (c.feed.new.self, put, λ settings pointers text h. c.in-Ok.ensures.sought settings pointers text (subst (λ (t : SeekingValue). HasSought settings pointers text t) here h))
