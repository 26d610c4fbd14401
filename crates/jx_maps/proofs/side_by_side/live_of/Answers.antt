use Rattle.std.proofs.Common.{◌∷◌, [], ◌++◌, take, set, true, List, Bool, subst, sym, ap, ◌∙◌}
use Rattle.std.proofs.lemmas.List.{take_all}
use Rattle.jx_maps.specs.Follow.{SegmentValue}
use Rattle.jx_maps.specs.inside.Bundle.{StandIn}
use Rattle.jx_maps.proofs.SideBySide.{StandIn-none, StandIn-state, StandIn-out, take-next}
use Rattle.jx_maps.proofs.side_by_side.live_of.Goals as goal
use Rattle.jx_maps.proofs.side_by_side.live_of.Goals.{in-State, in_default}

pub loop-i-init : goal.loop-i-init
loop-i-init c = StandIn-none

pub loop-i-preserved : goal.loop-i-preserved
loop-i-preserved c =
    let ps = c.args.segments.now in
    let p = c.index-segments-i.result in
    let i = c.loop-i.i in
    let live = c.loop-i.live in
    let v = c.loop-i.invariant in
    subst (λ (qs : List SegmentValue). StandIn c.match-next.live qs) (sym (take-next ps i p c.loop-i-test.true c.index-segments-i.is))
    (elim c.match-next.branch [
      | in-State w ↦
          subst (λ (l : List Bool). StandIn l (take i ps ++ p ∷ [])) (sym (w.live-is ∙ ap (λ n. set live n true) w.number.ensures.ordinal))
          (StandIn-state live (take i ps) p w.in-State.state v (sym w.in-State.ensures))
      | in_default w ↦
          subst (λ (l : List Bool). StandIn l (take i ps ++ p ∷ [])) (sym w.live-is) (StandIn-out live (take i ps) p v (λ s e. w.in_default.not-State s (c.next.ensures ∙ e)))
    ])

pub returns : goal.returns
returns c = subst (λ (ps : List SegmentValue). StandIn c.loop-i.live ps) (take_all c.loop-i.i c.args.segments.now c.loop-i-test.false) c.loop-i.invariant
