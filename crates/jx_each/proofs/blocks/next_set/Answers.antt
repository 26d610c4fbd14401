use Rattle.std.proofs.Common.{arith}
use Rattle.jx_each.proofs.Words.{first_set, none_set}
use Rattle.jx_each.proofs.blocks.next_set.Goals as goal

pub returns-then-rest-eq0-clause-none : goal.returns-then-rest-eq0-clause-none
returns-then-rest-eq0-clause-none c = λ k low lt. none_set c.args.bits c.args.at k c.if-rest-eq0.true low

pub returns-clause-bounds : goal.returns-clause-bounds
returns-clause-bounds c =
    let f = first_set c.args.bits c.args.at c.ranges.bits.fits c.if-rest-eq0.false in
    let low = f.low in
    let high = f.high in
    (low, omega (arith, high))

pub returns-clause-none : goal.returns-clause-none
returns-clause-none c = (first_set c.args.bits c.args.at c.ranges.bits.fits c.if-rest-eq0.false).none

pub returns-clause-set : goal.returns-clause-set
returns-clause-set c = λ lt. (first_set c.args.bits c.args.at c.ranges.bits.fits c.if-rest-eq0.false).set
