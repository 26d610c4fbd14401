use Rattle.std.proofs.Common.{suc, false, true, Some, refl, sym, subst, ◌∙◌}
use Rattle.std.proofs.lemmas.Result.{IfOk-weaker}
use Rattle.jx_lex.specs.declared.alphabet.mark.MarkKind.{MarkKind}
use Rattle.jx_lex.specs.declared.kind.Kind.TheVariants as kind
use Rattle.jx_run.specs.Tree.{span}
use Rattle.jx_index.specs.inside.Building.{Building, begin_container, on_mark, add_string}
use Rattle.jx_index.specs.inside.OpenNames.{Held, IsHeldOf, held}
use Rattle.jx_index.proofs.OpenNames.{container_held, end_held, closes, named_held, string_held, scalar_held}
use Rattle.jx_index.proofs.open_names.OpenNames.mark.Goals as goal

pub returns-in-OpenArray : goal.returns-in-OpenArray
returns-in-OpenArray c =
    let a = c.args in
    IfOk-weaker c.begin.result _ _
    (λ _ e text b x.
    subst (λ (k : MarkKind). IsHeldOf text (on_mark k a.at a.end b) (held c.begin.new.self)) (sym c.in-OpenArray.is)
    (subst (λ (h : Held). IsHeldOf text (begin_container kind.Array false a.at b) h) (sym e) (container_held text b (held a.self.now) x kind.Array false a.at refl)))
    c.begin.ensures

pub returns-in-OpenObject : goal.returns-in-OpenObject
returns-in-OpenObject c =
    let a = c.args in
    IfOk-weaker c.begin-in-OpenObject.result _ _
    (λ _ e text b x.
    subst (λ (k : MarkKind). IsHeldOf text (on_mark k a.at a.end b) (held c.begin-in-OpenObject.new.self)) (sym c.in-OpenObject.is)
    (subst (λ (h : Held). IsHeldOf text (begin_container kind.Object true a.at b) h) (sym e) (container_held text b (held a.self.now) x kind.Object true a.at refl)))
    c.begin-in-OpenObject.ensures

pub returns-in-CloseArray : goal.returns-in-CloseArray
returns-in-CloseArray c =
    let a = c.args in
    IfOk-weaker c.end.result _ _
    (λ _ e text b x.
    subst (λ (y : Building). IsHeldOf text y (held c.end.new.self)) (sym (closes a.kind a.at a.end b c.in-CloseArray.is))
    (end_held text b (held a.self.now) x (suc a.at) (held c.end.new.self) e))
    c.end.ensures

pub returns-then-is_name_next : goal.returns-then-is_name_next
returns-then-is_name_next c =
    let a = c.args in
    λ text b x.
    subst (λ (k : MarkKind). IsHeldOf text (on_mark k a.at a.end b) (record (held a.self.now) { name = Some (span a.at a.end) })) (sym c.in-String.is)
    (named_held text b (held a.self.now) x (span a.at a.end) (sym c.is_name_next.ensures ∙ c.if-is_name_next.true))

pub returns-else-is_name_next : goal.returns-else-is_name_next
returns-else-is_name_next c =
    let a = c.args in
    IfOk-weaker c.begin_value.result _ _
    (λ _ e text b x.
    subst (λ (k : MarkKind). IsHeldOf text (on_mark k a.at a.end b) (held c.begin_value.new.self)) (sym c.in-String.is)
    (subst (λ (h : Held). IsHeldOf text (add_string (span a.at a.end) b) h) (sym e)
    (string_held text b (held a.self.now) x (span a.at a.end) (sym c.is_name_next.ensures ∙ c.if-is_name_next.false))))
    c.begin_value.ensures

pub returns-in-Number : goal.returns-in-Number
returns-in-Number c =
    let a = c.args in
    IfOk-weaker c.begin_value-in-Number.result _ _
    (λ _ e text b x. subst (λ (h : Held). IsHeldOf text (on_mark a.kind a.at a.end b) h) (sym e) (scalar_held text b (held a.self.now) a.kind a.at a.end c.in-Number.is x))
    c.begin_value-in-Number.ensures
