use Rattle.std.proofs.Common.{suc, false, true, refl, sym, subst}
use Rattle.std.proofs.lemmas.Result.{IfOk-weaker}
use Rattle.jx_lex.specs.declared.alphabet.mark.MarkKind.{MarkKind}
use Rattle.jx_lex.specs.declared.kind.Kind.TheVariants as kind
use Rattle.jx_index.specs.inside.Building.{Building, begin_container, on_mark}
use Rattle.jx_index.proofs.OpenNames.{closes}
use Rattle.jx_names.specs.inside.KeptNames.{Stands, kept}
use Rattle.jx_names.proofs.Standing.{stands_container, stands_ended}
use Rattle.jx_names.proofs.open_names.OpenNames.structural.Goals as goal

pub returns-in-OpenArray : goal.returns-in-OpenArray
returns-in-OpenArray c =
    let a = c.args in
    IfOk-weaker c.begin.result _ _
    (λ _ e text b at end x.
    subst (λ (k : MarkKind). Stands text (on_mark k at end b) (kept c.begin.new.self)) (sym c.in-OpenArray.is)
    (subst (Stands text (begin_container kind.Array false at b)) (sym e) (stands_container text b (kept a.self.now) x kind.Array false at refl)))
    c.begin.ensures

pub returns-in-OpenObject : goal.returns-in-OpenObject
returns-in-OpenObject c =
    let a = c.args in
    IfOk-weaker c.begin-in-OpenObject.result _ _
    (λ _ e text b at end x.
    subst (λ (k : MarkKind). Stands text (on_mark k at end b) (kept c.begin-in-OpenObject.new.self)) (sym c.in-OpenObject.is)
    (subst (Stands text (begin_container kind.Object true at b)) (sym e) (stands_container text b (kept a.self.now) x kind.Object true at refl)))
    c.begin-in-OpenObject.ensures

pub returns-in-CloseArray : goal.returns-in-CloseArray
returns-in-CloseArray c =
    let a = c.args in
    IfOk-weaker c.end.result _ _
    (λ _ e text b at end x.
    subst (λ (y : Building). Stands text y (kept c.end.new.self)) (sym (closes a.kind at end b c.in-CloseArray.is)) (stands_ended text b (kept a.self.now) x (suc at) (kept c.end.new.self) e))
    c.end.ensures
