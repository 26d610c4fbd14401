use Rattle.std.proofs.Common.{rules, ◌≡◌, Some, subst, sym, ◌∙◌}
use Rattle.std.proofs.lemmas.Option.{same_Some}
use Rattle.jx_c.specs.Opened.{IsSought}
use Rattle.jx_c.specs.declared.saving.opened.OpenedIndex.{OpenedIndex}
use Rattle.jx_c.proofs.saving.saved.jx_saved_seek_non_null.Goals as goal

pub returns-clause-sought : goal.returns-clause-sought
returns-clause-sought c = λ s held ok.
    let here : s ≡ c.deref_mut.result.now = same_Some _ _ (sym held ∙ c.in-Some.ensures.taken) ∙ sym c.deref_mut.ensures.value in
    let put : c.replace-2.new.self.held ≡ Some c.seek-status.new.self = search rules in
    (c.seek-status.new.self, put, subst (λ (t : OpenedIndex). IsSought c.args.pointers.now t c.seek-status.new.self) (sym here) (c.seek-status.ensures.sought ok))
