use Rattle.std.proofs.Common.{[]}
use Rattle.jx_reduce.specs.Read.{went}
use Rattle.jx_reduce.specs.inside.Passed.{expect_of}
use Rattle.jx_reduce.specs.declared.table.expect.Expect.TheVariants as expected
use Rattle.jx_reduce.proofs.Passed.{reads-then}
use Rattle.jx_reduce.proofs.stack.whole_tokens.pair.Goals as goal
use Rattle.jx_reduce.proofs.Sees.{sees-read}

pub returns-then-name-clause-reads : goal.returns-then-name-clause-reads
returns-then-name-clause-reads g c = λ depth holders.
    reads-then depth c.args.text.now c.args.at.now c.name.new.at c.colon.new.at (went c.args.expect holders) (went expected.Colon holders) (went (expect_of c.colon.result) holders)
    (c.name.ensures.named c.if-name.true depth holders) (c.colon.ensures.reads depth holders)

pub returns-clause-reads : goal.returns-clause-reads
returns-clause-reads g c = λ depth holders. c.name.ensures.unnamed c.if-name.false depth holders

pub returns-then-name-clause-seen : goal.returns-then-name-clause-seen
returns-then-name-clause-seen g c =
    let old = g.W.Watch.has_seen c.args.watch.now in
    let mid = g.W.Watch.has_seen c.name.new.watch in
    let new = g.W.Watch.has_seen c.colon.new.watch in
    sees-read old mid new 0 c.args.text.now c.args.at.now c.name.new.at c.colon.new.at (went c.args.expect []) (went expected.Colon []) (c.name.ensures.named c.if-name.true 0 []) c.colon.ensures.bounds.0
    c.name.ensures.seen c.colon.ensures.seen
