use Rattle.std.proofs.Common.{arith, ◌∷◌, []}
use Rattle.jx_maps.proofs.ReadingOn.{reads-slices}
use Rattle.jx_maps.proofs.two_tracks.read_stretches.Goals as goal

pub returns-then-branch-clause-read : goal.returns-then-branch-clause-read
returns-then-branch-clause-read c =
    let v = c.loop-i.invariant in
    let b = c.in_ok-met.ensures.bounds in
    let fits = c.requires.1 in
    let back = c.in_ok-may_have_met.ensures.back c.if-branch.true in
    reads-slices c.args.text.now c.args.from c.loop-i.i c.in_ok-met.met (c.args.first.now ∷ c.args.second.now ∷ []) (c.loop-i.first ∷ c.loop-i.second ∷ []) (c.read_pair.new.first ∷ c.read_pair.new.second ∷ [])
    v.low b.0 (omega (arith, b, fits)) v.read (rw (← back.0, ← back.1) c.in_ok-met.ensures.read)

pub loop-i-preserved-then-stretch-lt-LONGEST_STRETCH : goal.loop-i-preserved-then-stretch-lt-LONGEST_STRETCH
loop-i-preserved-then-stretch-lt-LONGEST_STRETCH c =
    let v = c.loop-i.invariant in
    let b = c.stretch_end-end.ensures in
    let low = v.low in
    let some = v.some in
    let fits = c.requires.1 in
    record {
      some = omega (arith, some);
      few = omega (arith, c.if-stretch-lt-LONGEST_STRETCH.true);
      low = omega (arith, b, low);
      high = b.1;
      read = reads-slices c.args.text.now c.args.from c.loop-i.i c.stretch_end-end.result (c.args.first.now ∷ c.args.second.now ∷ []) (c.loop-i.first ∷ c.loop-i.second ∷ [])
          (c.may_have_met.new.first ∷ c.may_have_met.new.second ∷ []) low (omega (arith, b)) (omega (arith, b, fits)) v.read (c.in_ok-may_have_met.ensures.read c.if-branch.false);
    }

pub loop-i-preserved : goal.loop-i-preserved
loop-i-preserved c =
    let v = c.loop-i.invariant in
    let b = c.stretch_end-end.ensures in
    let low = v.low in
    let fits = c.requires.1 in
    record {
      some = v.some;
      few = v.few;
      low = omega (arith, b, low);
      high = b.1;
      read = reads-slices c.args.text.now c.args.from c.loop-i.i c.stretch_end-end.result (c.args.first.now ∷ c.args.second.now ∷ []) (c.loop-i.first ∷ c.loop-i.second ∷ [])
          (c.may_have_met.new.first ∷ c.may_have_met.new.second ∷ []) low (omega (arith, b)) (omega (arith, b, fits)) v.read (c.in_ok-may_have_met.ensures.read c.if-branch.false);
    }
