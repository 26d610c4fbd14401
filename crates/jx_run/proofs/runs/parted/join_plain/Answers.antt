use Rattle.std.proofs.Common.{ap, sym, subst, ◌∙◌, None}
use Rattle.jx_run.specs.Parted.{meaning}
use Rattle.jx_run.specs.inside.PartedJoins.{IsPartedJoin}
use Rattle.jx_run.proofs.PartedJoins.{plain_joins}
use Rattle.jx_run.proofs.runs.parted.join_plain.Goals as goal

pub returns-in-Ok-clause-joined : goal.returns-in-Ok-clause-joined
returns-in-Ok-clause-joined g c =
    let S = g.P.Summary in
    let m = meaning S.span S.depth S.is_of g.P.Piece.is_finished in
    subst (λ r. IsPartedJoin m (record { before = c.args.left; marked = None }) r (record { before = c.in-Ok.before; marked = c.right.inside.marked })) c.right.view_is
    (plain_joins m g.met.P.Piece.long c.args.left (record { before = c.right.inside.before; marked = c.right.inside.marked }) c.in-Ok.before
    (c.requires.neighbours ∙ sym (ap (λ v. (S.span v.before).start) c.right.view_is))
    (c.requires.depth ∙ sym (ap (λ v. S.depth v.before) c.right.view_is))
    c.in-Ok.ensures.span c.in-Ok.ensures.depth c.in-Ok.ensures.of)
