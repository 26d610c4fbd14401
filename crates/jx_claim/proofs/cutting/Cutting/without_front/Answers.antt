use Rattle.std.proofs.Common.{◌≡◌, ◌≤◌, sym, ap, ◌∙◌, subst, arith}
use Rattle.jx_claim.specs.Cut.{CuttingValue, Tiles, behind}
use Rattle.jx_claim.specs.inside.Listed.{listed}
use Rattle.jx_claim.proofs.Pieces.{behind_again, behind_covers}
use Rattle.jx_claim.proofs.cutting.Cutting.without_front.Goals as goal
use Rattle.jx_claim.proofs.cutting.Cutting.without_front.Goals.{After-ended-skipped}

from : (c : After-ended-skipped) → c.self.inside.front ≤ c.args.front
from c = omega (arith, c.requires.from, ap (λ (v : CuttingValue). v.front) c.self.view_is)

pub returns-clause-pieces : goal.returns-clause-pieces
returns-clause-pieces c =
    let s = c.self.inside in
    sym (behind_again s.front c.args.front (listed s.len s.pieces) (from c)) ∙ ap (λ (v : CuttingValue). behind c.args.front v.pieces) c.self.view_is

pub returns-clause-covers : goal.returns-clause-covers
returns-clause-covers c =
    let s = c.self.inside in
    let len : s.len ≡ c.args.self.len = ap (λ (v : CuttingValue). v.len) c.self.view_is in
    subst (λ n. Tiles c.args.front (behind c.args.front (listed s.len s.pieces)) n) len
    (behind_covers 0 (listed s.len s.pieces) s.len c.args.front c.self.invariant.0 (omega arith) (omega (arith, c.requires.within, len)))
