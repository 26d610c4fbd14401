use Rattle.std.proofs.Common.{◌+◌, arith}
use Rattle.jx_reduce.specs.Read.{went}
use Rattle.jx_reduce.proofs.Passed.{reads-none, reads-then, reads-within}
use Rattle.jx_reduce.proofs.Sees.{sees-none, sees-read}
use Rattle.jx_reduce.proofs.stack.blocks.blocks.Goals as goal

pub loop-init : goal.loop-init
loop-init g c =
    let b = c.requires.bounds in
    record {
      low = omega arith;
      high = b.0;
      reads = reads-none c.args.most c.args.text.now c.args.from (went c.args.expect (g.H.Containers.list c.args.holders.now)) (omega (arith, b));
      seen = sees-none (g.W.Watch.has_seen c.args.watch.now) c.args.text.now c.args.from;
      turn = c.requires.turn;
    }

pub block-requires-clause-within : goal.block-requires-clause-within
block-requires-clause-within g c =
    let w = c.requires.within in (
      reads-within c.args.most c.args.text.now c.args.from c.loop.at c.args.expect c.loop.expect (g.H.Containers.list c.args.holders.now) (g.H.Containers.list c.loop.holders) c.loop.invariant.reads w.0,
      w.1,
    )

pub returns-then-passed-lt-CLOSE-clause-reads : goal.returns-then-passed-lt-CLOSE-clause-reads
returns-then-passed-lt-CLOSE-clause-reads g c =
    let p = c.in-Some.passed in
    reads-then c.args.most c.args.text.now c.args.from c.loop.at (c.loop.at + p.len) (went c.args.expect (g.H.Containers.list c.args.holders.now)) (went c.loop.expect (g.H.Containers.list c.loop.holders)) (went p.then (g.H.Containers.list c.block.new.holders))
    c.loop.invariant.reads c.in-Some.ensures.reads

pub loop-preserved : goal.loop-preserved
loop-preserved g c =
    let p = c.in-Some.passed in
    let v = c.loop.invariant in
    let low = v.low in
    let short = c.in-Some.ensures.bounds in
    let room = c.if-to-at-lt-BLOCK.false in
    record {
      low = omega (arith, low);
      high = omega (arith, short, room);
      reads =
          reads-then c.args.most c.args.text.now c.args.from c.loop.at (c.loop.at + p.len) (went c.args.expect (g.H.Containers.list c.args.holders.now)) (went c.loop.expect (g.H.Containers.list c.loop.holders))
          (went p.then (g.H.Containers.list c.block.new.holders)) v.reads c.in-Some.ensures.reads;
      seen = sees-read (g.W.Watch.has_seen c.args.watch.now) (g.W.Watch.has_seen c.loop.watch) (g.W.Watch.has_seen c.block.new.watch) c.args.most c.args.text.now c.args.from c.loop.at (c.loop.at + p.len) _ _ v.reads (omega arith) v.seen c.in-Some.ensures.seen;
      turn = c.block.ensures.turn;
    }

pub returns-then-passed-lt-CLOSE-clause-seen : goal.returns-then-passed-lt-CLOSE-clause-seen
returns-then-passed-lt-CLOSE-clause-seen g c =
    let p = c.in-Some.passed in
    let v = c.loop.invariant in
    sees-read (g.W.Watch.has_seen c.args.watch.now) (g.W.Watch.has_seen c.loop.watch) (g.W.Watch.has_seen c.block.new.watch) c.args.most c.args.text.now c.args.from c.loop.at (c.loop.at + p.len) _ _ v.reads (omega arith) v.seen c.in-Some.ensures.seen
