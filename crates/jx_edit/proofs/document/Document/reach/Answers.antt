use Rattle.std.proofs.Common.{ap, ◌∙◌, ◌+◌, ◌++◌, length, List, ℕ}
use Rattle.jx_edit.specs.Document.{DocumentValue}
use Rattle.jx_edit.specs.Positions.{first, position_at}
use Rattle.jx_edit.proofs.Seeking.{over_position}
use Rattle.jx_edit.proofs.document.Document.reach.Goals as goal

pub returns-clause-position : goal.returns-clause-position
returns-clause-position c =
    let mark = c.in_front-mark.result.now in
    let count = length mark + c.reach_from-rest.result.count in
    over_position c.args.encoding first c.behind-front.result c.reach_from-rest.result.position mark c.self.inside.rest.bytes c.reach_from-rest.result.count c.behind-front.ensures
    c.reach_from-rest.ensures.position
    ∙ ap (λ (t : List ℕ). position_at c.args.encoding (t ++ c.self.inside.rest.bytes) count) c.in_front-mark.ensures
    ∙ ap (λ (d : DocumentValue). position_at c.args.encoding d.bytes count) c.self.view_is
