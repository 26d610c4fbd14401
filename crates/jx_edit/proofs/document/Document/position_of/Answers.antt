use Rattle.std.proofs.Common.{arith, ap, ◌∙◌, ◌++◌, length, List, ℕ}
use Rattle.jx_edit.specs.Document.{DocumentValue}
use Rattle.jx_edit.specs.Positions.{position_at}
use Rattle.jx_edit.proofs.Fronts.{front_long, long}
use Rattle.jx_edit.proofs.Seeking.{near_fits, position_over}
use Rattle.jx_edit.proofs.document.Document.position_of.Goals as goal

pub position_from-requires-clause-lines : goal.position_from-requires-clause-lines
position_from-requires-clause-lines c =
    (near_fits c.args.encoding c.behind-front.result c.in_front-mark.result.now c.self.inside.rest.bytes c.min.result c.behind-front.ensures
    (omega (arith, ap length c.in_front-mark.ensures, front_long c.self.inside.front c.self.invariant.short, long c.self.inside.front c.self.inside.rest.bytes c.self.invariant.short, c.self.invariant.fits))).0

pub position_from-requires-clause-characters : goal.position_from-requires-clause-characters
position_from-requires-clause-characters c =
    (near_fits c.args.encoding c.behind-front.result c.in_front-mark.result.now c.self.inside.rest.bytes c.min.result c.behind-front.ensures
    (omega (arith, ap length c.in_front-mark.ensures, front_long c.self.inside.front c.self.invariant.short, long c.self.inside.front c.self.inside.rest.bytes c.self.invariant.short, c.self.invariant.fits))).1

pub returns : goal.returns
returns c =
    position_over c.args.encoding c.behind-front.result c.position_from.result c.in_front-mark.result.now c.self.inside.rest.bytes c.args.offset c.min.result c.saturating_sub.result
    c.min.ensures c.saturating_sub.ensures c.behind-front.ensures c.position_from.ensures
    ∙ ap (λ (t : List ℕ). position_at c.args.encoding (t ++ c.self.inside.rest.bytes) c.args.offset) c.in_front-mark.ensures
    ∙ ap (λ (d : DocumentValue). position_at c.args.encoding d.bytes c.args.offset) c.self.view_is
