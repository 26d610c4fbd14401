use Rattle.std.proofs.Common.{arith}
use Rattle.jx_reduce.specs.Read.{went}
use Rattle.jx_reduce.proofs.Passed.{reads-none}
use Rattle.jx_reduce.proofs.stack.whole_tokens.string.Goals as goal
use Rattle.jx_reduce.proofs.Sees.{sees-none}

pub returns-then-end-at-clause-reads : goal.returns-then-end-at-clause-reads
returns-then-end-at-clause-reads g c = λ depth holders. let b = c.requires.bounds in reads-none depth c.args.text.now c.args.at.now (went c.args.expect holders) (omega (arith, b))

pub returns-then-end-at-clause-seen : goal.returns-then-end-at-clause-seen
returns-then-end-at-clause-seen g c = sees-none (g.W.Watch.has_seen c.args.watch.now) c.args.text.now c.args.at.now
