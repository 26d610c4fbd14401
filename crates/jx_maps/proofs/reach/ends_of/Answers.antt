use Rattle.std.proofs.Common.{false, replicate, List, refl, subst}
use Rattle.std.proofs.lemmas.List.{take_all}
use Rattle.jx_maps.specs.inside.Bundle.{AllLive}
use Rattle.jx_maps.specs.Follow.{SegmentValue}
use Rattle.jx_maps.proofs.Pruning.{closed-live, noted-next}
use Rattle.jx_maps.proofs.reach.ends_of.Goals as goal

pub loop-i-init : goal.loop-i-init
loop-i-init c = record { all = refl; segments = closed-live c.args.closed (replicate 32 false) c.args.segments.now c.requires.all_closed }

pub loop-i-preserved : goal.loop-i-preserved
loop-i-preserved c =
    record {
      all = c.note.array_long;
      segments = rw c.note.ensures (noted-next c.args.segments.now c.loop-i.i c.index-segments-i.result c.next.result c.loop-i.live c.loop-i-test.true c.index-segments-i.is c.next.ensures
          c.loop-i.invariant.all c.loop-i.invariant.segments);
    }

pub returns : goal.returns
returns c = subst (λ (ps : List SegmentValue). AllLive c.loop-i.live ps) (take_all c.loop-i.i c.args.segments.now c.loop-i-test.false) c.loop-i.invariant.segments
