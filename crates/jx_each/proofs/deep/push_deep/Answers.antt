use Rattle.std.proofs.Common.{arith}
use Rattle.jx_each.proofs.Walked.{walked_copied, walked_none, walked_then}
use Rattle.jx_each.proofs.deep.push_deep.Goals as goal

pub loop-inside-init : goal.loop-inside-init
loop-inside-init c = record {
  order = omega arith;
  low = omega arith;
  within = c.requires.within;
  high = omega arith;
  walked = walked_none c.args.takes c.args.bytes.now _ c.args.part.now.items;
}

pub loop-inside-preserved : goal.loop-inside-preserved
loop-inside-preserved c =
    let i = c.loop-inside.invariant in
    let n = c.in_ok-walk.ensures in
    record {
      order = n.order;
      low = omega (arith, i.low, n.bounds.0);
      within = n.bounds.1;
      high = omega (arith, i.low, i.high, n.bounds.0, n.high);
      walked = walked_then c.args.bytes.now i.low (omega (arith, n.bounds.0)) i.walked n.walked;
    }

pub returns-clause-copied : goal.returns-clause-copied
returns-clause-copied c = walked_copied c.args.bytes.now c.push_stretch.new.part.items c.args.place c.args.height c.args.from c.in_ok-push_stretch.ensures c.loop-inside.invariant.walked
