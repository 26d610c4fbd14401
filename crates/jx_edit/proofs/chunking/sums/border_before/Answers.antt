use Rattle.std.proofs.Common.{arith}
use Rattle.jx_edit.proofs.Groups.{border_fits, border_more, no_sum}
use Rattle.jx_edit.proofs.chunking.sums.border_before.Goals as goal

pub overflow_add-next : goal.overflow_add-next
overflow_add-next c =
    omega (arith, border_fits c.args.chunks.now c.args.sums.now c.loop-group.group c.loop-group.bytes no_sum c.loop-group-test.true c.requires.sums c.loop-group.invariant.long, c.requires.fits)

pub loop-group-preserved : goal.loop-group-preserved
loop-group-preserved c = record {
  long = border_more c.args.chunks.now c.args.sums.now c.loop-group.group c.loop-group.bytes no_sum c.loop-group-test.true c.requires.sums c.loop-group.invariant.long;
  tight = λ some. omega arith;
}
