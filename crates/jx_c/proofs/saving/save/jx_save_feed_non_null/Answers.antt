use Rattle.std.proofs.Common.{rules, ◌≡◌, Some, subst, sym, ◌∙◌}
use Rattle.std.proofs.lemmas.Option.{same_Some}
use Rattle.jx_c.specs.Saves.{HasRead}
use Rattle.jx_c.specs.declared.saving.saver.Saver.{Saver}
use Rattle.jx_c.proofs.saving.save.jx_save_feed_non_null.Goals as goal

pub returns-clause-fed : goal.returns-clause-fed
returns-clause-fed c = λ s held ok.
    let here : s ≡ c.deref_mut.result.now = same_Some _ _ (sym held ∙ c.in-Some.ensures.taken) ∙ sym c.deref_mut.ensures.value in
    let put : c.replace-2.new.self.held ≡ Some c.feed-status.new.self = search rules in
    (c.feed-status.new.self, put, λ has_names settings chunk text h. c.feed-status.ensures.read ok has_names settings chunk text (subst (λ (t : Saver). HasRead has_names settings chunk text t) here h))
