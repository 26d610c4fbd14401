use Rattle.std.specs.Prelude.{Result, Some, slice_get}
use Rattle.std.proofs.Common.{List, ℕ, ap, sym, subst, ◌∙◌}
use Rattle.jx_index.specs.declared.find_fault.FindFault.{FindFault}
use Rattle.jx_index.specs.declared.finder.Found.{Found}
use Rattle.jx_index.specs.Found.{AreFoundIn}
use Rattle.jx_cmd_index.proofs.Splits.{found_alone}
use Rattle.jx_cmd_index.proofs.splitting.found_one.Goals as goal

pub returns-in-Some-clause-found : goal.returns-in-Some-clause-found
returns-in-Some-clause-found g c = λ settings chunk text all is_index is tells.
    let found = c.in_ok-found.found.items in
    found_alone settings text c.args.pointer found c.in-Some.one
    (subst (λ (ps : List (List ℕ)). AreFoundIn settings text ps found) c.in_ok-pointers.ensures (c.in_ok-found.ensures.found settings chunk text all is_index is tells))
    (ap (λ (xs : List (Result Found FindFault)). slice_get xs 0) (sym c.deref.ensures.value) ∙ sym c.in-Some.ensures)
