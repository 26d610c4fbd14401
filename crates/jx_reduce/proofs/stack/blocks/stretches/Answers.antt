use Rattle.std.proofs.Common.{ℕ, List, arith}
use Rattle.jx_reduce.specs.Read.{Reading, went}
use Rattle.jx_reduce.specs.inside.Passed.{Reads}
use Rattle.jx_reduce.proofs.Passed.{reads-none, reads-then, reads-within}
use Rattle.jx_reduce.proofs.Sees.{sees-none, sees-read}
use Rattle.jx_reduce.proofs.stack.blocks.stretches.Goals as goal

-- three stretches
all_three : (d : ℕ) (xs : List ℕ) (a b c e : ℕ) (r s t u : Reading) → Reads d xs a b r s → Reads d xs b c s t → Reads d xs c e t u → Reads d xs a e r u
all_three d xs a b c e r s t u f g h = reads-then d xs a c e r t u (reads-then d xs a b c r s t f g) h

pub loop-init : goal.loop-init
loop-init g c =
    let b = c.requires.bounds in
    record {
      low = omega arith;
      high = b.0;
      reads = reads-none c.args.most c.args.text.now c.args.from (went c.args.expect (g.H.Containers.list c.args.holders.now)) (omega (arith, b));
      seen = sees-none (g.W.Watch.has_seen c.args.watch.now) c.args.text.now c.args.from;
      turn = c.requires.turn;
    }

pub blocks_where_close-begin-requires-clause-within : goal.blocks_where_close-begin-requires-clause-within
blocks_where_close-begin-requires-clause-within g c =
    let w = c.requires.within in (
      reads-within c.args.most c.args.text.now c.args.from c.loop.at c.args.expect c.loop.expect (g.H.Containers.list c.args.holders.now) (g.H.Containers.list c.loop.holders) c.loop.invariant.reads w.0,
      w.1,
    )

pub returns-then-not-takes_value-clause-reads : goal.returns-then-not-takes_value-clause-reads
returns-then-not-takes_value-clause-reads g c =
    let b = c.blocks_where_close-begin in
    reads-then c.args.most c.args.text.now c.args.from c.loop.at b.result.0 (went c.args.expect (g.H.Containers.list c.args.holders.now)) (went c.loop.expect (g.H.Containers.list c.loop.holders)) (went b.result.1 (g.H.Containers.list b.new.holders))
    c.loop.invariant.reads b.ensures.reads

pub rounds-behind-requires-clause-within : goal.rounds-behind-requires-clause-within
rounds-behind-requires-clause-within g c =
    let w = c.requires.within in
    let b = c.blocks_where_close-begin in (
      reads-within c.args.most c.args.text.now c.args.from b.result.0 c.args.expect b.result.1 (g.H.Containers.list c.args.holders.now) (g.H.Containers.list b.new.holders)
          (reads-then c.args.most c.args.text.now c.args.from c.loop.at b.result.0 (went c.args.expect (g.H.Containers.list c.args.holders.now)) (went c.loop.expect (g.H.Containers.list c.loop.holders)) (went b.result.1 (g.H.Containers.list b.new.holders))
          c.loop.invariant.reads b.ensures.reads)
          w.0,
      w.1,
    )

pub returns-then-end-to-clause-reads : goal.returns-then-end-to-clause-reads
returns-then-end-to-clause-reads g c =
    let b = c.blocks_where_close-begin in
    let r = c.rounds-behind in
    all_three c.args.most c.args.text.now c.args.from c.loop.at b.result.0 r.result.0 (went c.args.expect (g.H.Containers.list c.args.holders.now)) (went c.loop.expect (g.H.Containers.list c.loop.holders)) (went b.result.1 (g.H.Containers.list b.new.holders))
    (went r.result.1 (g.H.Containers.list r.new.holders)) c.loop.invariant.reads b.ensures.reads r.ensures.reads

pub loop-preserved : goal.loop-preserved
loop-preserved g c =
    let b = c.blocks_where_close-begin in
    let r = c.rounds-behind in
    let v = c.loop.invariant in
    let low = v.low in
    let d = b.ensures.bounds in
    let e = r.ensures.bounds in
    let end = c.stretch_end-end.ensures in
    record {
      low = omega (arith, low, d, e);
      high = omega (arith, e, end);
      reads =
          all_three c.args.most c.args.text.now c.args.from c.loop.at b.result.0 r.result.0 (went c.args.expect (g.H.Containers.list c.args.holders.now)) (went c.loop.expect (g.H.Containers.list c.loop.holders)) (went b.result.1 (g.H.Containers.list b.new.holders))
          (went r.result.1 (g.H.Containers.list r.new.holders)) c.loop.invariant.reads b.ensures.reads r.ensures.reads;
      seen =
          sees-read (g.W.Watch.has_seen c.args.watch.now) (g.W.Watch.has_seen c.loop.watch) (g.W.Watch.has_seen r.new.watch) c.args.most c.args.text.now c.args.from c.loop.at r.result.0 _ _ v.reads (omega (arith, d, e)) v.seen
          (sees-read (g.W.Watch.has_seen c.loop.watch) (g.W.Watch.has_seen b.new.watch) (g.W.Watch.has_seen r.new.watch) c.args.most c.args.text.now c.loop.at b.result.0 r.result.0 _ _ b.ensures.reads e.0 b.ensures.seen r.ensures.seen);
      turn = r.ensures.turn;
    }

pub returns-then-end-to-clause-seen : goal.returns-then-end-to-clause-seen
returns-then-end-to-clause-seen g c =
    let b = c.blocks_where_close-begin in
    let r = c.rounds-behind in
    let v = c.loop.invariant in
    let d = b.ensures.bounds in
    let e = r.ensures.bounds in
    sees-read (g.W.Watch.has_seen c.args.watch.now) (g.W.Watch.has_seen c.loop.watch) (g.W.Watch.has_seen r.new.watch) c.args.most c.args.text.now c.args.from c.loop.at r.result.0 _ _ v.reads (omega (arith, d, e)) v.seen
    (sees-read (g.W.Watch.has_seen c.loop.watch) (g.W.Watch.has_seen b.new.watch) (g.W.Watch.has_seen r.new.watch) c.args.most c.args.text.now c.loop.at b.result.0 r.result.0 _ _ b.ensures.reads e.0 b.ensures.seen r.ensures.seen)

pub returns-then-not-takes_value-clause-seen : goal.returns-then-not-takes_value-clause-seen
returns-then-not-takes_value-clause-seen g c =
    let b = c.blocks_where_close-begin in
    let v = c.loop.invariant in
    sees-read (g.W.Watch.has_seen c.args.watch.now) (g.W.Watch.has_seen c.loop.watch) (g.W.Watch.has_seen b.new.watch) c.args.most c.args.text.now c.args.from c.loop.at b.result.0 _ _ v.reads b.ensures.bounds.0 v.seen b.ensures.seen
