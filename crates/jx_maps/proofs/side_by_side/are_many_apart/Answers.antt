use Rattle.std.proofs.Common.{◌∷◌, [], arith, ◌++◌, take, set, true, List, Bool, subst, sym, ap, ◌∙◌}
use Rattle.std.proofs.lemmas.List.{take_all}
use Rattle.jx_maps.specs.Follow.{SegmentValue}
use Rattle.jx_maps.proofs.SideBySide.{Apart, Apart-none, Apart-state, Apart-out, Apart-single, take-next}
use Rattle.jx_maps.proofs.side_by_side.are_many_apart.Goals as goal
use Rattle.jx_maps.proofs.side_by_side.are_many_apart.Goals.{in-State+else-seen-number, in_default}

pub loop-i-init : goal.loop-i-init
loop-i-init c = record { apart = Apart-none; few = omega arith }

pub loop-i-preserved : goal.loop-i-preserved
loop-i-preserved c =
    let ps = c.args.segments.now in
    let p = c.index-segments-i.result in
    let i = c.loop-i.i in
    let seen = c.loop-i.seen in
    let v = c.loop-i.invariant.apart in
    let few = c.loop-i.invariant.few in
    record {
      apart = subst (λ (qs : List SegmentValue). Apart c.match-next.seen qs) (sym (take-next ps i p c.loop-i-test.true c.index-segments-i.is))
          (elim c.match-next.branch [
            | in-State+else-seen-number w ↦ (
                let s = w.in-State.state in
                subst (λ (l : List Bool). Apart l (take i ps ++ p ∷ [])) (sym (w.seen-is ∙ ap (λ n. set seen n true) w.number-in-State.ensures.ordinal))
                (Apart-state seen (take i ps) p s v (sym w.in-State.ensures) (rw w.number.ensures.ordinal at w.if-seen-number.false)))
            | in_default w ↦
                subst (λ (l : List Bool). Apart l (take i ps ++ p ∷ [])) (sym w.seen-is) (Apart-out seen (take i ps) p v (λ s e. w.in_default.not-State s (c.next.ensures ∙ e)))
          ]);
      few = elim c.match-next.branch [
        | in-State+else-seen-number w ↦ (let n = w.standing-is in omega (arith, few, n))
        | in_default w ↦ (let n = w.standing-is in omega (arith, few, n))
      ];
    }

pub returns : goal.returns
returns c = λ t. Apart-single c.loop-i.seen c.args.segments.now (subst (λ (ps : List SegmentValue). Apart c.loop-i.seen ps) (take_all c.loop-i.i c.args.segments.now c.loop-i-test.false) c.loop-i.invariant.apart)
