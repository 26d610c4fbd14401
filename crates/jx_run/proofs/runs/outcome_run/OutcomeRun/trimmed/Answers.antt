use Rattle.std.proofs.Common.{append-nil, length, sym, ap, subst, arith}
use Rattle.jx_run.specs.OutcomeRun.{OutcomeRunValue, AreUsed, IsOutcomeRun}
use Rattle.jx_run.proofs.runs.outcome_run.OutcomeRun.trimmed.Goals as goal

pub returns-clause-of : goal.returns-clause-of
returns-clause-of c bytes h =
    let i = c.trimmed.inside in
    let both = c.in_ok-trimmed.ensures.of bytes _ h (c.shifted.ensures.of _ c.in_ok-nothing.ensures.of) in
    subst (λ fs. IsOutcomeRun bytes (record { depth = i.depth; start = i.span.start; end = i.span.end; transitions = i.transitions.items; structures = fs })) (sym c.shrink_to_fit.ensures.items)
    (subst (IsOutcomeRun bytes) (sym c.trimmed.view_is) (subst (λ xs. IsOutcomeRun xs c.in_ok-trimmed.trimmed) (append-nil bytes) both))

pub returns-clause-used : goal.returns-clause-used
returns-clause-used c n low =
    let used = subst (λ (v : OutcomeRunValue). AreUsed v.transitions (length v.structures)) (sym c.trimmed.view_is) c.in_ok-trimmed.ensures.used in
    let same = ap length c.shrink_to_fit.ensures.items in
    used n (omega (arith, low, same))
