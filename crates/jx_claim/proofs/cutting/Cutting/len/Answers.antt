use Rattle.std.proofs.Common.{subst, arith}
use Rattle.jx_claim.specs.Cut.{CuttingValue, Tiles}
use Rattle.jx_claim.specs.inside.Listed.{listed}
use Rattle.jx_claim.proofs.Pieces.{behind_covers}
use Rattle.jx_claim.proofs.cutting.Cutting.len.Goals as goal

pub returns-clause-covers : goal.returns-clause-covers
returns-clause-covers c =
    let s = c.self.inside in
    subst (λ (v : CuttingValue). Tiles v.front v.pieces v.len) c.self.view_is
    (behind_covers 0 (listed s.len s.pieces) s.len s.front c.self.invariant.0 (omega arith) c.self.invariant.3)
