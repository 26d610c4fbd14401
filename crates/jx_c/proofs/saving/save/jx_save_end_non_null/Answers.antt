use Rattle.std.proofs.Common.{rules, refl, ◌≡◌, Some, None, length, subst, sym, ap, ◌∙◌}
use Rattle.std.proofs.lemmas.Option.{same_Some}
use Rattle.jx_run.specs.declared.texts.verdict.Verdict.TheVariants as verdict
use Rattle.jx_run.specs.declared.texts.verdict.Verdict.{Verdict}
use Rattle.jx_c.specs.Saves.{HasRead, IsEndedBy}
use Rattle.jx_c.specs.declared.saving.saver.Saver.{Saver}
use Rattle.jx_c.specs.declared.saving.saver.Saver.TheVariants.{Saved}
use Rattle.jx_c.proofs.saving.save.jx_save_end_non_null.Goals as goal

pub returns-in-Ok-Accepted-clause-told : goal.returns-in-Ok-Accepted-clause-told
returns-in-Ok-Accepted-clause-told c = λ s held ok has_names settings chunk text h.
    let here : s ≡ c.deref_mut.result.now = same_Some _ _ (sym held ∙ c.in-Some.ensures.taken) ∙ sym c.deref_mut.ensures.value in
    let put : c.replace-in-Ok-Accepted.new.self.held ≡ Some c.end.new.self = search rules in
    let ended = subst (λ (v : Verdict). IsEndedBy c.deref_mut.result.now c.end.new.self v) c.in-Ok-Accepted.field-0-is c.in-Ok-Accepted.ensures.ended in
    let told = ended.2 has_names settings chunk text (subst (λ (t : Saver). HasRead has_names settings chunk text t) here h) in
    let waits : c.deref.result.now ≡ Saved ended.0 = search (rules, ended.1) in
    let size : c.size.result ≡ length ended.0.items = c.size.ensures ended.0 waits in
    (verdict.Accepted, told.0, c.shown.ensures, (ended.0, put ∙ ap Some ended.1, told.1, size))

pub returns-in-Ok-Refused-clause-told : goal.returns-in-Ok-Refused-clause-told
returns-in-Ok-Refused-clause-told c = λ s held ok has_names settings chunk text h.
    let here : s ≡ c.deref_mut.result.now = same_Some _ _ (sym held ∙ c.in-Some.ensures.taken) ∙ sym c.deref_mut.ensures.value in
    let none : c.replace.new.self.held ≡ None = search rules in
    let ended = subst (λ (v : Verdict). IsEndedBy c.deref_mut.result.now c.end.new.self v) c.in-Ok-Refused.field-0-is c.in-Ok-Refused.ensures.ended in
    (verdict.Refused c.in-Ok-Refused.refusal, ended has_names settings chunk text (subst (λ (t : Saver). HasRead has_names settings chunk text t) here h), c.shown-in-Ok-Refused.ensures, (none, refl))
