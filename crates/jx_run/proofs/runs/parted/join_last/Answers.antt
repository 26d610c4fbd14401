use Rattle.std.proofs.Common.{ap, subst, ◌∙◌, None, Some}
use Rattle.jx_run.specs.Parted.{meaning}
use Rattle.jx_run.specs.inside.PartedJoins.{IsPartedJoin}
use Rattle.jx_run.proofs.PartedJoins.{last_joins}
use Rattle.jx_run.proofs.runs.parted.join_last.Goals as goal

pub returns-in-Ok-clause-joined : goal.returns-in-Ok-clause-joined
returns-in-Ok-clause-joined g c =
    let S = g.P.Summary in
    let m = meaning S.span S.depth S.is_of g.P.Piece.is_finished in
    subst
    (λ v. IsPartedJoin m (record { before = c.args.before; marked = Some v }) (record { before = c.args.right; marked = None })
    (record { before = c.args.before; marked = Some (record { done = c.marked.inside.done.items; after = c.in-Ok.after }) }))
    c.marked.view_is
    (last_joins m g.met.P.Piece.long c.args.before (record { done = c.marked.inside.done.items; after = c.marked.inside.after }) c.args.right c.in-Ok.after
    (ap (λ v. (S.span v.after).end) c.marked.view_is ∙ c.requires.neighbours)
    c.in-Ok.ensures.span c.in-Ok.ensures.depth c.in-Ok.ensures.of)
