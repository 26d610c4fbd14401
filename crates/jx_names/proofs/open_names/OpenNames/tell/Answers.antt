use Rattle.std.proofs.Common.{◌≡◌, length, true, sym, subst, ◌∙◌}
use Rattle.std.specs.Prelude.{slice_range}
use Rattle.std.proofs.lemmas.Result.{IfOk-weaker}
use Rattle.jx_index.specs.inside.Building.{is_token, on_mark}
use Rattle.jx_index.proofs.CutNames.{rest}
use Rattle.jx_names.specs.inside.KeptNames.{Stands, kept}
use Rattle.jx_names.proofs.Standing.{stands_name, stands_value}
use Rattle.jx_names.proofs.open_names.OpenNames.tell.Goals as goal

pub returns-then-not-has_end : goal.returns-then-not-has_end
returns-then-not-has_end c = let a = c.args in IfOk-weaker c.structural.result _ _ (λ _ tells text b end name x. tells text b a.at end x) c.structural.ensures

pub returns-then-is_name_next : goal.returns-then-is_name_next
returns-then-is_name_next c =
    let a = c.args in
    let k = kept a.self.now in
    let next = sym c.is_name_next.ensures ∙ c.if-is_name_next.true in
    IfOk-weaker c.begin_name.result _ _
    (λ _ e text b end name x.
    subst (Stands text (on_mark a.kind a.at end b)) (sym e) (stands_name text b k x a.kind a.at end (slice_range a.name.now 0 (length a.name.now)) next (name next ∙ sym (rest a.name.now 0))))
    c.begin_name.ensures

pub returns : goal.returns
returns c =
    let a = c.args in
    let k = kept a.self.now in
    let token : is_token a.kind ≡ true = sym c.has_end.ensures ∙ c.if-not-has_end.false in
    let other = sym c.is_name_next.ensures ∙ c.if-is_name_next.false in
    IfOk-weaker c.begin_value.result _ _ (λ _ e text b end name x. subst (Stands text (on_mark a.kind a.at end b)) (sym e) (stands_value text b k x a.kind a.at end token other))
    c.begin_value.ensures
