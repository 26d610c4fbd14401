use Rattle.std.proofs.Common.{◌<◌, List, ℕ, ap, length, subst, sym, ◌∙◌}
use Rattle.std.specs.Prelude.{Result, slice_get}
use Rattle.std.proofs.lemmas.Result.{MatchResult-at_err, MatchResult-at_ok}
use Rattle.jx_index.specs.declared.find_fault.FindFault.{FindFault}
use Rattle.jx_index.specs.declared.finder.Found.{Found}
use Rattle.jx_c.specs.LookUps.{AreFoundBy}
use Rattle.jx_c.proofs.AnyNames.{first_found, some_found}
use Rattle.jx_c.proofs.texts.look_up.look_up_one.Goals as goal

pub found_at-requires : goal.found_at-requires
found_at-requires c =
    let settings = c.args.settings.now in
    let text = c.args.text.now in
    let found = c.in-Ok.found.items in
    let are = subst (λ (ps : List (List ℕ)). AreFoundBy settings text ps found) c.from_ref.ensures.value (MatchResult-at_ok _ _ c.in-Ok.found c.in-Ok.is c.in_ok-refusal.ensures) in
    subst (λ (xs : List (Result Found FindFault)). 0 < length xs) (sym c.deref.ensures.value) (some_found settings text c.args.pointer.now found are)

pub returns-in-Ok : goal.returns-in-Ok
returns-in-Ok c = λ spelt.
    let settings = c.args.settings.now in
    let text = c.args.text.now in
    let found = c.in-Ok.found.items in
    let are = subst (λ (ps : List (List ℕ)). AreFoundBy settings text ps found) c.from_ref.ensures.value (MatchResult-at_ok _ _ c.in-Ok.found c.in-Ok.is c.in_ok-refusal.ensures) in
    c.told-in-Ok.ensures settings text c.args.pointer.now spelt
    (first_found settings text c.args.pointer.now found c.found_at.result are (ap (λ (xs : List (Result Found FindFault)). slice_get xs 0) (sym c.deref.ensures.value) ∙ c.found_at.ensures))

pub returns-in-Err : goal.returns-in-Err
returns-in-Err c = λ spelt.
    c.told.ensures c.args.settings.now c.args.text.now c.args.pointer.now spelt (MatchResult-at_err _ _ c.in-Err.refusal c.in-Err.is c.in_ok-refusal.ensures)
