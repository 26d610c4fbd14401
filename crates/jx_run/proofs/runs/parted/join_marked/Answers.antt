use Rattle.std.proofs.Common.{ap, subst, ◌∙◌, Some}
use Rattle.jx_run.specs.Parted.{MarkedValue, PartedValue, meaning}
use Rattle.jx_run.specs.inside.PartedJoins.{IsPartedJoin}
use Rattle.jx_run.proofs.PartedJoins.{marked_joins}
use Rattle.jx_run.proofs.runs.parted.join_marked.Goals as goal

pub returns-in-Ok-clause-joined : goal.returns-in-Ok-clause-joined
returns-in-Ok-clause-joined g c =
    let S = g.P.Summary in
    let m = meaning S.span S.depth S.is_of g.P.Piece.is_finished in
    let left : MarkedValue g.row.P.Denot g.row.P-Finished.Denot = record { done = c.marked.inside.done.items; after = c.marked.inside.after } in
    let right : MarkedValue g.row.P.Denot g.row.P-Finished.Denot = record { done = c.right.inside.done.items; after = c.right.inside.after } in
    let joined : PartedValue g.row.P.Denot g.row.P-Finished.Denot = record { before = c.args.before; marked = Some (record { done = c.close.new.done.items; after = c.right.inside.after }) } in
    subst (λ r. IsPartedJoin m (record { before = c.args.before; marked = Some c.args.marked }) (record { before = c.args.middle; marked = Some r }) joined) c.right.view_is
    (subst (λ l. IsPartedJoin m (record { before = c.args.before; marked = Some l }) (record { before = c.args.middle; marked = Some right }) joined) c.marked.view_is
    (marked_joins m g.met.P.Piece.long c.args.before left c.args.middle right c.close.new.done.items
    (ap (λ v. (S.span v.after).end) c.marked.view_is ∙ c.requires.neighbours)
    (ap (λ v. S.depth v.after) c.marked.view_is ∙ c.requires.left)
    (ap (λ v. S.depth v.after) c.marked.view_is ∙ c.requires.depth)
    c.in-Ok.ensures.ok))
