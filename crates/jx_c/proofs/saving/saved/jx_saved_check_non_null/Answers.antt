use Rattle.std.proofs.Common.{◌≡◌, Some, subst, sym, ◌∙◌}
use Rattle.std.proofs.lemmas.Option.{same_Some}
use Rattle.jx_c.specs.Opened.{IsChunk, IsNoChunk, chunk_with}
use Rattle.jx_c.specs.declared.saving.opened.OpenedIndex.{OpenedIndex}
use Rattle.jx_c.proofs.saving.saved.jx_saved_check_non_null.Goals as goal

pub returns-clause-kept : goal.returns-clause-kept
returns-clause-kept c = λ s span held e is.
    let here : s ≡ c.deref.result.now = same_Some _ _ (sym held ∙ c.in-Some.ensures.taken) ∙ sym c.deref.ensures in
    let there = subst (λ (t : OpenedIndex). chunk_with t.saved.index c.args.at ≡ Some span) here e in
    subst (λ (t : OpenedIndex). IsChunk t.saved.index span c.args.bytes.now) (sym here) (c.check-status.ensures.kept span there is)

pub returns-clause-changed : goal.returns-clause-changed
returns-clause-changed c = λ s span held e is.
    let here : s ≡ c.deref.result.now = same_Some _ _ (sym held ∙ c.in-Some.ensures.taken) ∙ sym c.deref.ensures in
    let there = subst (λ (t : OpenedIndex). chunk_with t.saved.index c.args.at ≡ Some span) here e in
    subst (λ (t : OpenedIndex). IsNoChunk t.saved.index span c.args.bytes.now) (sym here) (c.check-status.ensures.changed span there is)
