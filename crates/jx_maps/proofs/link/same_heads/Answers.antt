use Rattle.std.proofs.Common.{◌≡◌, ◌<◌, length-set, set, map, get_or, refl, sym, subst, ◌∙◌, ap, arith}
use Rattle.std.proofs.lemmas.List.{ext_get_or, get_or-map}
use Rattle.jx_maps.specs.Follow.{head}
use Rattle.jx_lex.specs.Ordinal.{ordinal, all_states}
use Rattle.jx_maps.specs.declared.link.Link.TheVariants.{State, Fault}
use Rattle.jx_lex.specs.declared.alphabet.state.LexState.TheVariants as state
use Rattle.jx_lex.proofs.StateOrder.{ordinal-at}
use Rattle.jx_maps.proofs.Building.{head-set, ordinal-in}
use Rattle.jx_maps.proofs.link.same_heads.Goals as goal

pub loop-state-init : goal.loop-state-init
loop-state-init c = record { all = refl; done = λ s lt. absurd (omega (arith, lt)) }

pub loop-state-preserved : goal.loop-state-preserved
loop-state-preserved c =
    let i = c.loop-state.state-index in
    let heads = c.loop-state.heads in
    let v = c.loop-state.invariant in
    let t = get_or c.all-state-items.result i state.Gap in
    let at : ordinal t ≡ i = ordinal-in c.all-state-items.result i c.all-state-items.ensures c.loop-state-test.true in
    record {
      all = length-set heads c.number.result (State t) ∙ v.all;
      done = λ s lt. subst (λ n. head (set heads n (State t)) s ≡ State s) (sym c.number.ensures.ordinal)
          (head-set (λ g. g ≡ State s) heads t s (State t) v.all (λ e. ap State (sym e)) (λ ne. v.done s (omega (arith, lt, ne, at))));
    }

pub returns : goal.returns
returns c =
    let heads = c.loop-state.heads in
    let v = c.loop-state.invariant in
    let end : c.loop-state.state-index ≡ 32 = omega arith in
    ext_get_or (Fault 0) heads (map State all_states) v.all
    (λ i low.
    let few : i < 32 = let all = v.all in omega (arith, low, all) in
    let s = get_or all_states i state.Gap in
    let at : ordinal s ≡ i = ordinal-at i few in
    let done : ordinal s < c.loop-state.state-index = omega (arith, few, at, end) in
    ap (λ k. get_or heads k (Fault 0)) (sym at) ∙ v.done s done ∙ sym (get_or-map State all_states i state.Gap (Fault 0) few))
