use Rattle.std.proofs.Common.{◌≡◌, ◌+◌, length, ap, arith}
use Rattle.jx_claim.specs.Cut.{CuttingValue, behind}
use Rattle.jx_claim.specs.inside.Listed.{listed}
use Rattle.jx_claim.proofs.Pieces.{behind_len, behind_covers, covers_none}
use Rattle.jx_claim.proofs.cutting.Cutting.count.Goals as goal

-- the pieces and those that are left out are all parts
together : (c : goal.After-row_known-1) → length c.args.self.now.pieces + c.self.inside.skipped ≡ c.count.result
together c =
    let s = c.self.inside in
    omega (
      arith,
      behind_len s.front s.skipped (listed s.len s.pieces) c.self.invariant.4,
      c.count.ensures s.len,
      ap (λ (v : CuttingValue). length v.pieces) c.self.view_is,
    )

pub returns-clause-count : goal.returns-clause-count
returns-clause-count c = omega (arith, together c)

pub returns-clause-none : goal.returns-clause-none
returns-clause-none c = λ empty.
    let s = c.self.inside in
    let covers = behind_covers 0 (listed s.len s.pieces) s.len s.front c.self.invariant.0 (omega arith) c.self.invariant.3 in
    omega (arith, together c, covers_none s.front (behind s.front (listed s.len s.pieces)) s.len covers (omega (arith, empty, ap (λ (v : CuttingValue). v.len) c.self.view_is)), ap (λ (v : CuttingValue). length v.pieces) c.self.view_is)
