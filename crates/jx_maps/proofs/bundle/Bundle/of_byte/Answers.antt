use Rattle.std.proofs.Common.{◌≡◌, arith, subst, [], ◌∷◌}
use Rattle.jx_maps.proofs.Building.{Built, Built-start, Built-where, Stands-start, Stands-where, Reads-built, ordinal-in}
use Rattle.jx_maps.proofs.bundle.Bundle.of_byte.Goals as goal

pub loop-state-init : goal.loop-state-init
loop-state-init c =
    record {
      built = rw c.empty-bundle.ensures (Built-start c.args.at (c.args.byte ∷ []) c.args.live.now _);
      stands = rw c.empty-bundle.ensures (Stands-start (c.args.byte ∷ []) c.args.live.now);
    }

pub loop-state-preserved : goal.loop-state-preserved
loop-state-preserved c =
    let v = c.loop-state.invariant in
    record {
      built = rw c.in_ok-add_live_byte.ensures (Built-where c.args.at c.args.byte c.args.live.now c.loop-state.state-index _ _ (ordinal-in c.all-state-items.result c.loop-state.state-index c.all-state-items.ensures c.loop-state-test.true) v.built);
      stands = rw c.in_ok-add_live_byte.ensures (Stands-where c.args.at c.args.byte c.args.live.now _ _ v.built.all v.stands);
    }

pub returns-clause-reads : goal.returns-clause-reads
returns-clause-reads c =
    let e : c.loop-state.state-index ≡ 32 = omega arith in
    Reads-built c.args.at c.args.byte c.args.live.now _ (subst (λ i. Built c.args.at (c.args.byte ∷ []) c.args.live.now i c.loop-state.bundle) e c.loop-state.invariant.built)
