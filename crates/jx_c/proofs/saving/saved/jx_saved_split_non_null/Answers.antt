use Rattle.std.proofs.Common.{rules, ◌≡◌, Some, subst, sym, ◌∙◌}
use Rattle.std.proofs.lemmas.Option.{same_Some}
use Rattle.jx_c.specs.Opened.{IsSplit, aim_in}
use Rattle.jx_c.specs.declared.saving.opened.OpenedIndex.{OpenedIndex}
use Rattle.jx_c.proofs.saving.saved.jx_saved_split_non_null.Goals as goal

pub returns-clause-split : goal.returns-clause-split
returns-clause-split c = λ s held ok.
    let here : s ≡ c.deref_mut.result.now = same_Some _ _ (sym held ∙ c.in-Some.ensures.taken) ∙ sym c.deref_mut.ensures.value in
    let put : c.replace-2.new.self.held ≡ Some c.split-status.new.self = search rules in
    (c.split-status.new.self, put, subst (λ (t : OpenedIndex). IsSplit (aim_in c.args.whole.now c.args.parts) t c.split-status.new.self) (sym here) (c.split-status.ensures.split ok))
