use Rattle.std.proofs.Common.{ap, arith}
use Rattle.jx_summary.specs.declared.span.Span.{Span}
use Rattle.jx_claim.specs.inside.Listed.{between}
use Rattle.jx_claim.proofs.Pieces.{length-between, between_at, ended_at}
use Rattle.jx_claim.proofs.piece_list.ended_between.Goals as goal

pub returns-else-ends-ended : goal.returns-else-ends-ended
returns-else-ends-ended c =
    let es = c.args.ends.now in
    let k = c.loop-ended.ended in
    let n = length-between 0 es in
    ended_at (between 0 es) c.requires.0 c.args.offset k c.requires.1 (omega (arith, n, c.loop-ended.invariant.bound))
    (λ i d low. omega (arith, ap (λ (p : Span). p.end) (between_at 0 es i d (omega (arith, low, c.loop-ended.invariant.bound))), c.loop-ended.invariant.before i low))
    (λ d low. omega (arith, ap (λ (p : Span). p.end) (between_at 0 es k d (omega (arith, n, low))), c.if-ends-ended.false))

pub returns-after-loop-ended : goal.returns-after-loop-ended
returns-after-loop-ended c =
    let es = c.args.ends.now in
    let k = c.loop-ended.ended in
    let n = length-between 0 es in
    ended_at (between 0 es) c.requires.0 c.args.offset k c.requires.1 (omega (arith, n, c.loop-ended.invariant.bound))
    (λ i d low. omega (arith, ap (λ (p : Span). p.end) (between_at 0 es i d (omega (arith, low, c.loop-ended.invariant.bound))), c.loop-ended.invariant.before i low))
    (λ d low. absurd (omega (arith, n, low, c.loop-ended-test.false)))
