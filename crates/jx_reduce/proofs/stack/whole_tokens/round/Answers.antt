use Rattle.std.proofs.Common.{arith}
use Rattle.jx_reduce.specs.Read.{went}
use Rattle.jx_reduce.specs.inside.Passed.{expect_of}
use Rattle.jx_reduce.proofs.Passed.{reads-then}
use Rattle.jx_reduce.proofs.stack.whole_tokens.round.Goals as goal
use Rattle.jx_reduce.proofs.Sees.{sees-read}

pub returns-clause-reads : goal.returns-clause-reads
returns-clause-reads g c =
    let xs = c.args.text.now in
    let most = c.args.most in
    let v = c.value-begun in
    let e = c.ends-ended in
    let m = c.member in
    let t = g.H.Containers.list e.new.holders in
    reads-then most xs c.args.at.now v.new.at m.new.at (went c.args.expect (g.H.Containers.list c.args.holders.now)) (went (expect_of v.result) (g.H.Containers.list v.new.holders)) (went (expect_of m.result) t)
    v.ensures.reads
    (reads-then most xs v.new.at e.new.at m.new.at (went (expect_of v.result) (g.H.Containers.list v.new.holders)) (went (expect_of e.result) t) (went (expect_of m.result) t)
    (e.ensures.reads most) (m.ensures.reads most t))

pub returns-clause-seen : goal.returns-clause-seen
returns-clause-seen g c =
    let xs = c.args.text.now in
    let v = c.value-begun in
    let e = c.ends-ended in
    let m = c.member in
    let zero = g.W.Watch.has_seen c.args.watch.now in
    let one = g.W.Watch.has_seen v.new.watch in
    let two_ = g.W.Watch.has_seen e.new.watch in
    let three = g.W.Watch.has_seen m.new.watch in
    sees-read zero one three c.args.most xs c.args.at.now v.new.at m.new.at _ _ v.ensures.reads (let low = e.ensures.bounds.0 in let high = m.ensures.bounds.0 in omega (arith, low, high)) v.ensures.seen
    (sees-read one two_ three 0 xs v.new.at e.new.at m.new.at _ _ (e.ensures.reads 0) m.ensures.bounds.0 e.ensures.seen m.ensures.seen)
