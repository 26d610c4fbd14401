use Rattle.std.proofs.Common.{arith, sym, subst}
use Rattle.jx_reduce.specs.Read.{went}
use Rattle.jx_reduce.specs.inside.Passed.{Reads}
use Rattle.jx_reduce.specs.declared.table.expect.Expect.{Expect}
use Rattle.jx_reduce.proofs.Passed.{reads-none}
use Rattle.jx_reduce.proofs.stack.whole_tokens.number.Goals as goal
use Rattle.jx_reduce.proofs.Sees.{sees-none}

pub returns-then-end-at-clause-reads : goal.returns-then-end-at-clause-reads
returns-then-end-at-clause-reads g c = λ depth. let b = c.requires.bounds in reads-none depth c.args.text.now c.args.at.now (went c.args.expect (g.H.Containers.list c.args.holders.now)) (omega (arith, b))

pub returns-then-more-clause-reads : goal.returns-then-more-clause-reads
returns-then-more-clause-reads g c = λ depth.
    let n = c.number_end-turn in
    subst (λ (f : Expect). Reads depth c.args.text.now c.args.at.now n.new.at (went c.args.expect (g.H.Containers.list c.args.holders.now)) (went f (g.H.Containers.list n.new.holders))) (sym c.stopped.ensures) (n.ensures.reads depth)

pub returns-then-end-at-clause-seen : goal.returns-then-end-at-clause-seen
returns-then-end-at-clause-seen g c = sees-none (g.W.Watch.has_seen c.args.watch.now) c.args.text.now c.args.at.now
