use Rattle.std.proofs.Common.{arith}
use Rattle.jx_reduce.specs.Read.{went}
use Rattle.jx_reduce.proofs.Passed.{reads-none}
use Rattle.jx_reduce.proofs.Sees.{sees-none}
use Rattle.jx_reduce.proofs.stack.blocks.blocks_where_close.Goals as goal

pub returns-then-to-from-lt-BLOCK-clause-reads : goal.returns-then-to-from-lt-BLOCK-clause-reads
returns-then-to-from-lt-BLOCK-clause-reads g c =
    let b = c.requires.bounds in
    reads-none c.args.most c.args.text.now c.args.from (went c.args.expect (g.H.Containers.list c.args.holders.now)) (omega (arith, b))

pub returns-then-to-from-lt-BLOCK-clause-seen : goal.returns-then-to-from-lt-BLOCK-clause-seen
returns-then-to-from-lt-BLOCK-clause-seen g c = sees-none (g.W.Watch.has_seen c.args.watch.now) c.args.text.now c.args.from
