use Rattle.std.proofs.Common.{[]}
use Rattle.jx_reduce.specs.Read.{went}
use Rattle.jx_reduce.specs.inside.Passed.{expect_of}
use Rattle.jx_reduce.proofs.Passed.{reads-blank, reads-then}
use Rattle.jx_reduce.proofs.stack.whole_tokens.value.Goals as goal
use Rattle.jx_reduce.proofs.Sees.{sees-passed, stays}

pub returns-in-34-clause-reads : goal.returns-in-34-clause-reads
returns-in-34-clause-reads g c =
    let xs = c.args.text.now in
    let most = c.args.most in
    let s = g.H.Containers.list c.args.holders.now in
    let i = c.skip.new.at in
    reads-then most xs c.args.at.now i c.string.new.at (went c.args.expect s) (went c.args.expect s) (went (expect_of c.string.result) s)
    (reads-blank most xs c.args.at.now i (went c.args.expect s) c.skip.ensures.passes)
    (c.string.ensures.reads most s)

pub returns-in-123-clause-reads : goal.returns-in-123-clause-reads
returns-in-123-clause-reads g c =
    let xs = c.args.text.now in
    let most = c.args.most in
    let s = g.H.Containers.list c.args.holders.now in
    let i = c.skip.new.at in
    reads-then most xs c.args.at.now i c.object.new.at (went c.args.expect s) (went c.args.expect s) (went (expect_of c.object.result) (g.H.Containers.list c.object.new.holders))
    (reads-blank most xs c.args.at.now i (went c.args.expect s) c.skip.ensures.passes)
    c.object.ensures.reads

pub returns-in-91-clause-reads : goal.returns-in-91-clause-reads
returns-in-91-clause-reads g c =
    let xs = c.args.text.now in
    let most = c.args.most in
    let s = g.H.Containers.list c.args.holders.now in
    let i = c.skip.new.at in
    reads-then most xs c.args.at.now i c.array.new.at (went c.args.expect s) (went c.args.expect s) (went (expect_of c.array.result) (g.H.Containers.list c.array.new.holders))
    (reads-blank most xs c.args.at.now i (went c.args.expect s) c.skip.ensures.passes)
    c.array.ensures.reads

pub returns-in-116-clause-reads : goal.returns-in-116-clause-reads
returns-in-116-clause-reads g c =
    let xs = c.args.text.now in
    let most = c.args.most in
    let s = g.H.Containers.list c.args.holders.now in
    let i = c.skip.new.at in
    reads-then most xs c.args.at.now i c.literal.new.at (went c.args.expect s) (went c.args.expect s) (went (expect_of c.literal.result) s)
    (reads-blank most xs c.args.at.now i (went c.args.expect s) c.skip.ensures.passes)
    (c.literal.ensures.reads most s)

pub returns-in_default-clause-reads : goal.returns-in_default-clause-reads
returns-in_default-clause-reads g c =
    let xs = c.args.text.now in
    let most = c.args.most in
    let s = g.H.Containers.list c.args.holders.now in
    let i = c.skip.new.at in
    reads-then most xs c.args.at.now i c.number.new.at (went c.args.expect s) (went c.args.expect s) (went (expect_of c.number.result) (g.H.Containers.list c.number.new.holders))
    (reads-blank most xs c.args.at.now i (went c.args.expect s) c.skip.ensures.passes)
    (c.number.ensures.reads most)

pub returns-in-34-clause-seen : goal.returns-in-34-clause-seen
returns-in-34-clause-seen g c =
    sees-passed (g.W.Watch.has_seen c.args.watch.now) (g.W.Watch.has_seen c.args.watch.now) (g.W.Watch.has_seen c.string.new.watch) c.args.text.now c.args.at.now c.skip.new.at c.string.new.at [] []
    c.skip.ensures.passes (stays (g.W.Watch.has_seen c.args.watch.now)) c.string.ensures.bounds.0 c.string.ensures.seen

pub returns-in-123-clause-seen : goal.returns-in-123-clause-seen
returns-in-123-clause-seen g c =
    sees-passed (g.W.Watch.has_seen c.args.watch.now) (g.W.Watch.has_seen c.args.watch.now) (g.W.Watch.has_seen c.object.new.watch) c.args.text.now c.args.at.now c.skip.new.at c.object.new.at [] []
    c.skip.ensures.passes (stays (g.W.Watch.has_seen c.args.watch.now)) c.object.ensures.bounds.0 c.object.ensures.seen

pub returns-in-91-clause-seen : goal.returns-in-91-clause-seen
returns-in-91-clause-seen g c =
    sees-passed (g.W.Watch.has_seen c.args.watch.now) (g.W.Watch.has_seen c.args.watch.now) (g.W.Watch.has_seen c.array.new.watch) c.args.text.now c.args.at.now c.skip.new.at c.array.new.at [] []
    c.skip.ensures.passes (stays (g.W.Watch.has_seen c.args.watch.now)) c.array.ensures.bounds.0 c.array.ensures.seen

pub returns-in-116-clause-seen : goal.returns-in-116-clause-seen
returns-in-116-clause-seen g c =
    sees-passed (g.W.Watch.has_seen c.args.watch.now) (g.W.Watch.has_seen c.args.watch.now) (g.W.Watch.has_seen c.literal.new.watch) c.args.text.now c.args.at.now c.skip.new.at c.literal.new.at [] []
    c.skip.ensures.passes (stays (g.W.Watch.has_seen c.args.watch.now)) c.literal.ensures.bounds.0 c.literal.ensures.seen

pub returns-in_default-clause-seen : goal.returns-in_default-clause-seen
returns-in_default-clause-seen g c =
    sees-passed (g.W.Watch.has_seen c.args.watch.now) (g.W.Watch.has_seen c.args.watch.now) (g.W.Watch.has_seen c.number.new.watch) c.args.text.now c.args.at.now c.skip.new.at c.number.new.at [] []
    c.skip.ensures.passes (stays (g.W.Watch.has_seen c.args.watch.now)) c.number.ensures.bounds.0 c.number.ensures.seen
