use Rattle.std.proofs.Common.{◌≤◌, ap, arith, length, subst}
use Rattle.jx_reduce.specs.Read.{went}
use Rattle.jx_reduce.specs.inside.Passed.{Reads, expect_of}
use Rattle.jx_reduce.specs.declared.table.expect.Expect.{Expect}
use Rattle.jx_reduce.proofs.Passed.{reads-none, reads-then, reads-within}
use Rattle.jx_reduce.proofs.Sees.{sees-none, sees-read}
use Rattle.jx_reduce.proofs.stack.whole_tokens.rounds.Goals as goal

pub loop-init : goal.loop-init
loop-init g c =
    let b = c.requires.bounds in
    record {
      low = omega arith;
      high = b.0;
      takes = c.requires.takes;
      sound = c.nothing-ahead.ensures.sound c.args.text.now;
      reads = reads-none c.args.most c.args.text.now c.args.from (went c.args.expect (g.H.Containers.list c.args.holders.now)) (omega (arith, b));
      seen = sees-none (g.W.Watch.has_seen c.args.watch.now) c.args.text.now c.args.from;
      turn = c.requires.turn;
    }

pub round-requires-clause-few : goal.round-requires-clause-few
round-requires-clause-few g c =
    let w = c.requires.within in
    let short : length (g.H.Containers.list c.loop.holders) ≤ c.args.most =
    reads-within c.args.most c.args.text.now c.args.from c.loop.at c.args.expect c.loop.expect (g.H.Containers.list c.args.holders.now) (g.H.Containers.list c.loop.holders) c.loop.invariant.reads w.0 in
    omega (arith, w, short)

pub returns-in-On-2-clause-reads : goal.returns-in-On-2-clause-reads
returns-in-On-2-clause-reads g c =
    let v = c.loop.invariant in
    let r = c.round in
    let xs = c.args.text.now in
    let most = c.args.most in
    reads-then most xs c.args.from c.loop.at r.new.at (went c.args.expect (g.H.Containers.list c.args.holders.now)) (went c.loop.expect (g.H.Containers.list c.loop.holders)) (went c.in-On.next (g.H.Containers.list r.new.holders)) v.reads
    (subst (λ (f : Expect). Reads most xs c.loop.at r.new.at (went c.loop.expect (g.H.Containers.list c.loop.holders)) (went f (g.H.Containers.list r.new.holders))) (ap expect_of c.in-On.is) r.ensures.reads)

pub returns-in-Stop-clause-reads : goal.returns-in-Stop-clause-reads
returns-in-Stop-clause-reads g c =
    let v = c.loop.invariant in
    let r = c.round in
    let xs = c.args.text.now in
    let most = c.args.most in
    reads-then most xs c.args.from c.loop.at r.new.at (went c.args.expect (g.H.Containers.list c.args.holders.now)) (went c.loop.expect (g.H.Containers.list c.loop.holders)) (went c.in-Stop.next (g.H.Containers.list r.new.holders)) v.reads
    (subst (λ (f : Expect). Reads most xs c.loop.at r.new.at (went c.loop.expect (g.H.Containers.list c.loop.holders)) (went f (g.H.Containers.list r.new.holders))) (ap expect_of c.in-Stop.is) r.ensures.reads)

pub loop-preserved : goal.loop-preserved
loop-preserved g c =
    let v = c.loop.invariant in
    let low = v.low in
    let r = c.round in
    let k = r.ensures.bounds in
    let xs = c.args.text.now in
    let most = c.args.most in
    record {
      low = omega (arith, low, k);
      high = k.1;
      takes = c.takes_value.ensures c.if-takes_value.true;
      sound = r.ensures.sound;
      reads =
          reads-then most xs c.args.from c.loop.at r.new.at (went c.args.expect (g.H.Containers.list c.args.holders.now)) (went c.loop.expect (g.H.Containers.list c.loop.holders)) (went c.in-On.next (g.H.Containers.list r.new.holders)) v.reads
          (subst (λ (f : Expect). Reads most xs c.loop.at r.new.at (went c.loop.expect (g.H.Containers.list c.loop.holders)) (went f (g.H.Containers.list r.new.holders))) (ap expect_of c.in-On.is) r.ensures.reads);
      seen = sees-read (g.W.Watch.has_seen c.args.watch.now) (g.W.Watch.has_seen c.loop.watch) (g.W.Watch.has_seen r.new.watch) most xs c.args.from c.loop.at r.new.at _ _ v.reads r.ensures.bounds.0 v.seen r.ensures.seen;
      turn = r.ensures.turn;
    }

pub returns-in-On-2-clause-seen : goal.returns-in-On-2-clause-seen
returns-in-On-2-clause-seen g c =
    let v = c.loop.invariant in
    let r = c.round in
    let xs = c.args.text.now in
    let most = c.args.most in
    sees-read (g.W.Watch.has_seen c.args.watch.now) (g.W.Watch.has_seen c.loop.watch) (g.W.Watch.has_seen r.new.watch) most xs c.args.from c.loop.at r.new.at _ _ v.reads r.ensures.bounds.0 v.seen r.ensures.seen

pub returns-in-Stop-clause-seen : goal.returns-in-Stop-clause-seen
returns-in-Stop-clause-seen g c =
    let v = c.loop.invariant in
    let r = c.round in
    let xs = c.args.text.now in
    let most = c.args.most in
    sees-read (g.W.Watch.has_seen c.args.watch.now) (g.W.Watch.has_seen c.loop.watch) (g.W.Watch.has_seen r.new.watch) most xs c.args.from c.loop.at r.new.at _ _ v.reads r.ensures.bounds.0 v.seen r.ensures.seen

pub returns-clause-seen : goal.returns-clause-seen
returns-clause-seen g c = c.loop.invariant.seen
