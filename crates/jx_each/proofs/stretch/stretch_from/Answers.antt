use Rattle.std.proofs.Common.{arith}
use Rattle.jx_each.proofs.Stretching.{more_stretch}
use Rattle.jx_each.proofs.stretch.stretch_from.Goals as goal

pub loop-end-preserved : goal.loop-end-preserved
loop-end-preserved c =
    let i = c.loop-end.invariant in
    let n = c.near_stretch-next.ensures in
    record {
      low = omega (arith, i.low, n.bounds.0);
      within = n.bounds.1;
      high = omega (arith, i.low, i.high, n.bounds.0, n.high);
      stretch = more_stretch c.args.bytes.now c.args.from c.loop-end.end _ i.low (omega (arith, n.bounds.0)) i.stretch n.stretch;
    }
