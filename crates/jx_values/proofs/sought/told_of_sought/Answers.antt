use Rattle.std.specs.Prelude.{slice_get}
use Rattle.std.proofs.Common.{◌∷◌, [], ap, sym, ◌∙◌}
use Rattle.std.proofs.lemmas.Result.{IfOk-at_ok, IfOk-weaker}
use Rattle.jx_values.proofs.Lookups.{found_first}
use Rattle.jx_values.proofs.sought.told_of_sought.Goals as goal

pub returns-in-Some : goal.returns-in-Some
returns-in-Some c =
    let is = ap (λ l. slice_get l 0) (sym c.deref.ensures.value) ∙ sym c.first_of.ensures ∙ c.in-Some.is in
    let pointer = c.args.pointer.now in
    IfOk-weaker c.told_of_found.result _ _
    (λ told e. λ settings bytes h. found_first c.args.content settings bytes pointer c.in-Ok.found.items c.in-Some.found c.args.tokens told.items (IfOk-at_ok _ c.in-Ok.is c.in_ok-found.ensures.found settings (pointer ∷ []) bytes h) is e)
    c.told_of_found.ensures
