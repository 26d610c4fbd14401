use Rattle.std.proofs.Common.{Result, Ok, subst}
use Rattle.jx_run.specs.declared.texts.verdict.Refusal.{Refusal}
use Rattle.jx_index.specs.declared.find_fault.FindFault.{FindFault}
use Rattle.jx_index.specs.declared.finder.Found.{Found}
use Rattle.jx_index.specs.Found.{IsFoundBy}
use Rattle.jx_c.proofs.Led.{in_bytes, none_refused}
use Rattle.jx_c.proofs.texts.look_up.told.Goals as goal

pub returns-in-Ok : goal.returns-in-Ok
returns-in-Ok c = λ settings text pointer spelt told.
    let h : IsFoundBy settings text pointer (Ok c.in-Ok.found) = subst (λ (r : Result (Result Found FindFault) Refusal). IsFoundBy settings text pointer r) c.in-Ok.is told in
    let x = h.1 in
    let none = none_refused c.unique_tree_by_settings.ensures.one_tree settings text x.tree x.is_text h.0 in
    in_bytes text x.tree pointer settings x.is_text none spelt c.look_up_of.result (c.look_up_of.ensures text x.tree pointer x.found_is)
