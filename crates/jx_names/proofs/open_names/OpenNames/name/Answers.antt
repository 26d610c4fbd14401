use Rattle.std.proofs.Common.{sym, subst}
use Rattle.std.specs.Prelude.{slice_range}
use Rattle.std.proofs.lemmas.Result.{IfOk-weaker}
use Rattle.jx_index.specs.inside.Building.{on_mark}
use Rattle.jx_names.specs.inside.KeptNames.{Kept, Stands, kept}
use Rattle.jx_names.proofs.Standing.{stands_name}
use Rattle.jx_names.proofs.open_names.OpenNames.name.Goals as goal

pub returns-clause-stands : goal.returns-clause-stands
returns-clause-stands c =
    let a = c.args in
    IfOk-weaker c.begin_name.result _ _
    (λ _ e text b kind end next is x.
    subst (λ (k : Kept). Stands text (on_mark kind a.at end b) k) (sym e) (stands_name text b (kept a.self.now) x kind a.at end (slice_range a.slice.now a.from a.to) next is))
    c.begin_name.ensures
