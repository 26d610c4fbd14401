use Rattle.std.specs.Prelude.{slice_get}
use Rattle.std.proofs.Common.{◌∷◌, [], ap, sym, ◌∙◌}
use Rattle.std.proofs.lemmas.Result.{IfOk-at_ok}
use Rattle.jx_c.proofs.Outcomes.{found_first}
use Rattle.jx_c.proofs.streams.stream.outcome_of_sought.Goals as goal

pub returns-in-Some : goal.returns-in-Some
returns-in-Some c =
    let is = ap (λ l. slice_get l 0) (sym c.deref.ensures.value) ∙ sym c.first_of.ensures ∙ c.in-Some.is in
    λ settings pointer bytes h. found_first settings bytes pointer c.in-Ok.found.items c.in-Some.found c.args.tokens c.outcome_of_found.result (IfOk-at_ok _ c.in-Ok.is c.in_ok-found.ensures.found settings (pointer ∷ []) bytes h)
    is c.outcome_of_found.ensures
