use Rattle.std.proofs.Common.{◌≡◌, ◌<◌, ap, ◌∙◌, arith, length, get_or, rules}
use Rattle.std.proofs.lemmas.List.{get_or_default}
use Rattle.jx_maps.specs.declared.link.Link.TheVariants.{Fault}
use Rattle.jx_lex.proofs.StateOrder.{ordinal-low}
use Rattle.jx_maps.proofs.Building.{ordinal-in}
use Rattle.jx_maps.proofs.Pruning.{noted-heads, noted-segments}
use Rattle.jx_maps.proofs.reach.exits.Goals as goal

pub loop-state-init : goal.loop-state-init
loop-state-init c =
    record {
      all = search rules;
      segments = c.ends_of-live.ensures;
      heads = λ s lt. absurd (omega (arith, lt));
    }

pub loop-state-preserved : goal.loop-state-preserved
loop-state-preserved c =
    let v = c.loop-state.invariant in
    let noted = c.note.ensures in
    let heads = c.args.heads.now in
    let i = c.loop-state.state-index in
    let n = c.number.result in
    let at : n ≡ i = c.number.ensures.ordinal ∙ ordinal-in c.all-state-items.result i c.all-state-items.ensures c.loop-state-test.true in
    let all = c.told-heads in
    let few = c.number.ensures.low in
    let low : n < length heads = omega (arith, all, few) in
    record {
      all = c.note.array_long;
      segments = rw noted (noted-segments _ c.args.segments.now c.loop-state.live v.all v.segments);
      heads = rw noted (noted-heads heads i _ c.loop-state.live v.all (get_or_default heads n _ _ low ∙ ap (λ k. get_or heads k (Fault 0)) at) v.heads);
    }

pub returns-clause-heads : goal.returns-clause-heads
returns-clause-heads c = λ s. c.loop-state.invariant.heads s (let l = ordinal-low s in omega (arith, l))
