use Rattle.std.proofs.Common.{arith}
use Rattle.jx_each.proofs.Words.{clear_before, clear_past}
use Rattle.jx_each.proofs.blocks.next_clear.Goals as goal

pub returns-clause-all : goal.returns-clause-all
returns-clause-all c =
    let n = c.next_set.ensures in
    λ k low lt. clear_before c.args.bits k c.ranges.bits.fits (omega (arith, lt, n.bounds.1)) (n.none k low lt)

pub returns-clause-past : goal.returns-clause-past
returns-clause-past c =
    let n = c.next_set.ensures in
    λ set. clear_past c.args.bits c.args.at c.next_set.result c.ranges.bits.fits c.requires n.bounds.0 set n.set
