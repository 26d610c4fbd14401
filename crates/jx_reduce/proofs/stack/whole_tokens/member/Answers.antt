use Rattle.std.proofs.Common.{ap, arith, subst, sym}
use Rattle.jx_reduce.specs.Read.{went}
use Rattle.jx_reduce.specs.inside.Passed.{Reads, expect_of}
use Rattle.jx_reduce.specs.declared.table.expect.Expect.{Expect}
use Rattle.jx_reduce.proofs.Passed.{reads-none}
use Rattle.jx_reduce.proofs.stack.whole_tokens.member.Goals as goal
use Rattle.jx_reduce.proofs.Sees.{sees-none}

pub returns-in-On-clause-reads : goal.returns-in-On-clause-reads
returns-in-On-clause-reads g c = λ depth holders.
    subst (λ (f : Expect). Reads depth c.args.text.now c.args.at.now c.pair.new.at (went f holders) (went (expect_of c.pair.result) holders)) (sym (ap expect_of c.in-On.is))
    (c.pair.ensures.reads depth holders)

pub returns-in_default-clause-reads : goal.returns-in_default-clause-reads
returns-in_default-clause-reads g c = λ depth holders.
    let b = c.requires.bounds in
    let before = went (expect_of c.args.turn) holders in
    subst (λ (f : Expect). Reads depth c.args.text.now c.args.at.now c.args.at.now before (went f holders)) (ap expect_of c.in-On.is)
    (reads-none depth c.args.text.now c.args.at.now before (omega (arith, b)))

pub returns-in_default-2-clause-reads : goal.returns-in_default-2-clause-reads
returns-in_default-2-clause-reads g c = λ depth holders.
    let b = c.requires.bounds in
    reads-none depth c.args.text.now c.args.at.now (went (expect_of c.args.turn) holders) (omega (arith, b))

pub returns-in_default-clause-seen : goal.returns-in_default-clause-seen
returns-in_default-clause-seen g c = sees-none (g.W.Watch.has_seen c.args.watch.now) c.args.text.now c.args.at.now

pub returns-in_default-2-clause-seen : goal.returns-in_default-2-clause-seen
returns-in_default-2-clause-seen g c = sees-none (g.W.Watch.has_seen c.args.watch.now) c.args.text.now c.args.at.now
