use Rattle.std.proofs.Common.{List, take, refl, subst, sym}
use Rattle.jx_maps.specs.Follow.{SegmentValue}
use Rattle.jx_maps.specs.inside.Passing.{KeptBy, AllKept}
use Rattle.jx_maps.proofs.SideBySide.{AllKept-more, take-next}
use Rattle.jx_maps.proofs.side_by_side.all_keep_digits.Goals as goal

pub loop-i-preserved : goal.loop-i-preserved
loop-i-preserved c = λ w a b d e.
    let ps = c.args.segments.now in
    let p = c.index-segments-i.result in
    let here : KeptBy p.next w = subst (λ g. KeptBy g w) c.next.ensures (c.if-not-keeps_digits.ensures refl w a b d e) in
    subst (λ (qs : List SegmentValue). AllKept w qs) (sym (take-next ps c.loop-i.i p c.loop-i-test.true c.index-segments-i.is))
    (AllKept-more w (take c.loop-i.i ps) p (c.loop-i.invariant w a b d e) here)
