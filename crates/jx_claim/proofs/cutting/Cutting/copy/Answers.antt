use Rattle.std.proofs.Common.{◌≡◌, ◌<◌, List, length, sym, subst}
use Rattle.jx_summary.specs.declared.span.Span.{Span}
use Rattle.jx_claim.specs.Cut.{Tiles}
use Rattle.jx_claim.specs.inside.Listed.{listed, AreEnded}
use Rattle.jx_claim.proofs.cutting.Cutting.copy.Goals as goal

pub invariant_of-result : goal.invariant_of-result
invariant_of-result c =
    let old = c.self.inside in
    let i = c.self.invariant in
    let same : listed old.len old.pieces ≡ listed old.len c.in_ok-copy.field-0 = sym (c.in_ok-copy.ensures.same old.len) in (
      subst (λ (ps : List Span). Tiles 0 ps old.len) same i.0,
      subst (λ (ps : List Span). length ps < 4294967296) same i.1,
      c.in_ok-copy.ensures.regular old.len i.2,
      i.3,
      subst (λ (ps : List Span). AreEnded old.front old.skipped ps) same i.4,
    )
