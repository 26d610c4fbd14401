use Rattle.std.proofs.Common.{◌≡◌, length, set, get_or, true, false, sym, subst, ap, ◌∙◌, arith, length-set}
use Rattle.std.proofs.lemmas.List.{get_or_default}
use Rattle.jx_maps.specs.declared.link.Link.TheVariants.{Fault}
use Rattle.jx_maps.specs.inside.Pruned.{IsReached}
use Rattle.jx_maps.proofs.Building.{ordinal-in}
use Rattle.jx_lex.proofs.StateOrder.{ordinal-low}
use Rattle.jx_maps.proofs.Pruning.{reached-heads, reached-none, reached-set, IsReached-set, head-in}
use Rattle.jx_maps.proofs.reach.reached_from.Goals as goal
use Rattle.jx_maps.proofs.reach.reached_from.Goals.{then-is_live+in-Ahead, then-is_live+in_default, else-is_live}

pub index_mut-requires : goal.index_mut-requires
index_mut-requires c =
    let low = head-in c.args.heads.now c.args.count c.number.result _ c.in-Ahead.skip c.told-heads c.number.ensures.low c.requires c.in-Ahead.is in
    let many = c.loop-state.invariant.many in
    let ok = c.loop-state.reached.ok in
    omega (arith, low, many)

pub loop-state-preserved : goal.loop-state-preserved
loop-state-preserved c =
    let v = c.loop-state.invariant in
    let heads = c.args.heads.now in
    let live = c.args.live.now in
    let rs = c.loop-state.reached.items in
    let new = c.if-is_live.reached.items in
    let i = c.loop-state.state-index in
    let at = ordinal-in c.all-state-items.result i c.all-state-items.ensures c.loop-state-test.true in
    let all = c.told-heads in
    elim c.if-is_live.branch [
      | then-is_live+in-Ahead w ↦ (
          let k = w.in-Ahead.skip in
          let n = w.number.result in
          let few = w.number.ensures.low in
          let here : n ≡ i = w.number.ensures.ordinal ∙ at in
          let same : new ≡ set rs k true = ap (λ v. v.items) w.reached-is in
          let low = head-in heads c.args.count n _ k all few c.requires w.in-Ahead.is in
          let many = v.many in
          record {
            many = ap length same ∙ length-set rs k true ∙ v.many;
            heads = rw same (reached-heads heads live rs (set rs k true) i v.heads (λ g h. IsReached-set rs k g h)
                (λ l. subst (IsReached (set rs k true)) (sym w.in-Ahead.is ∙ get_or_default heads n _ (Fault 0) (omega (arith, all, few)) ∙ ap (λ j. get_or heads j (Fault 0)) here)
                (reached-set rs k (omega (arith, low, many)))));
          })
      | then-is_live+in_default w ↦ (
          let n = w.number.result in
          let few = w.number.ensures.low in
          let here : n ≡ i = w.number.ensures.ordinal ∙ at in
          let same : new ≡ rs = ap (λ v. v.items) w.reached-is in
          record {
            many = ap length same ∙ v.many;
            heads = rw same (reached-heads heads live rs rs i v.heads (λ g h. h)
                (λ l. subst (IsReached rs) (get_or_default heads n _ (Fault 0) (omega (arith, all, few)) ∙ ap (λ j. get_or heads j (Fault 0)) here) (reached-none rs _ w.in_default.not-Ahead)));
          })
      | else-is_live w ↦ (
          let same : new ≡ rs = ap (λ v. v.items) w.reached-is in
          record {
            many = ap length same ∙ v.many;
            heads = rw same (reached-heads heads live rs rs i v.heads (λ g h. h)
                (λ l. let no : true ≡ false = sym l ∙ ap (λ k. get_or live k false) (sym at) ∙ sym c.is_live.ensures ∙ w.if-is_live.false in absurd cc));
          })
    ]

pub returns-clause-heads : goal.returns-clause-heads
returns-clause-heads c = λ s. c.loop-state.invariant.heads s (let l = ordinal-low s in omega (arith, l))
