use Rattle.std.proofs.Common.{ℕ, List, [], ◌∷◌, ap, sym, subst, refl}
use Rattle.std.specs.Prelude.{Result}
use Rattle.std.proofs.lemmas.Result.{IfOk-at_ok}
use Rattle.jx_run.specs.declared.texts.settings.NameRule.TheVariants.{Any}
use Rattle.jx_run.specs.declared.texts.settings.Settings.{Settings}
use Rattle.jx_index.specs.Found.{AreFoundIn}
use Rattle.jx_index.specs.declared.find_fault.FindFault.{FindFault}
use Rattle.jx_index.specs.declared.finder.Found.{Found}
use Rattle.jx_index.specs.declared.row.Row.{Row}
use Rattle.jx_serve.specs.inside.Leading.{StartsAt}
use Rattle.jx_serve.proofs.Leading.{found_leads}
use Rattle.jx_serve.proofs.pointer_to.finds.Goals as goal

pub returns-in-Ok : goal.returns-in-Ok
returns-in-Ok c = λ is tree number d at.
    let settings = c.args.settings.now in
    let text = c.args.text.now in
    let pointer = c.args.pointer in
    let any : Settings = record { depth = settings.depth; mark = settings.mark; names = Any } in
    let are = IfOk-at_ok (λ found. AreFoundIn any text (pointer ∷ []) found.items) c.in-Ok.is c.in_ok-find_each_by.ensures.found in
    let first = subst (λ (x : ℕ). StartsAt x c.deref.result.now) (ap (λ (r : Row). r.span.start) c.row.view_is) (c.starts_at.ensures is) in
    found_leads c.rows_of_look_ups.ensures.led c.strings_pointers_and_rows.ensures.starts c.unique_tree_by_settings.ensures.one_tree settings any text pointer c.deref.result.now c.args.row.now refl refl
    (subst (λ (xs : List (Result Found FindFault)). AreFoundIn any text (pointer ∷ []) xs) (sym c.deref.ensures.value) are) first tree number d at
