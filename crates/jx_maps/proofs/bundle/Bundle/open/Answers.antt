use Rattle.std.proofs.Common.{◌≡◌, arith, subst}
use Rattle.jx_maps.proofs.Building.{Opened, Opened-start, Opened-where, Reads-open, ordinal-in}
use Rattle.jx_maps.proofs.bundle.Bundle.open.Goals as goal

pub loop-state-init : goal.loop-state-init
loop-state-init c = rw c.empty-bundle.ensures (Opened-start c.args.live.now c.told-live)

pub loop-state-preserved : goal.loop-state-preserved
loop-state-preserved c =
    rw c.in_ok-open_live.ensures (Opened-where c.args.live.now c.loop-state.state-index _ _ (ordinal-in c.all-state-items.result c.loop-state.state-index c.all-state-items.ensures c.loop-state-test.true) c.loop-state.invariant)

pub returns-clause-reads : goal.returns-clause-reads
returns-clause-reads c =
    let e : c.loop-state.state-index ≡ 32 = omega arith in
    let h = subst (λ i. Opened c.args.live.now i c.loop-state.bundle) e c.loop-state.invariant in
    λ at. Reads-open at c.args.live.now _ (h.built at)

pub returns-clause-stands : goal.returns-clause-stands
returns-clause-stands c = c.loop-state.invariant.stands

pub returns-clause-closed : goal.returns-clause-closed
returns-clause-closed c = c.loop-state.invariant.closed

pub returns-clause-count : goal.returns-clause-count
returns-clause-count c =
    let e : c.loop-state.state-index ≡ 32 = omega arith in
    (subst (λ i. Opened c.args.live.now i c.loop-state.bundle) e c.loop-state.invariant).count
