use Rattle.std.proofs.Common.{arith}
use Rattle.jx_reduce.specs.Read.{went}
use Rattle.jx_reduce.proofs.Passed.{reads-none, reads-within}
use Rattle.jx_reduce.proofs.stack.pass.pass_tokens.Goals as goal

pub returns-then-not-may_pass-clause-exit : goal.returns-then-not-may_pass-clause-exit
returns-then-not-may_pass-clause-exit g c =
    let b = c.requires.bounds in
    (reads-none c.args.most c.args.text.now c.args.from (went c.args.expect (g.H.Containers.list c.args.holders.now)) (omega (arith, b))).exit

pub returns-then-not-may_pass-clause-reads : goal.returns-then-not-may_pass-clause-reads
returns-then-not-may_pass-clause-reads g c =
    let b = c.requires.bounds in
    (reads-none c.args.most c.args.text.now c.args.from (went c.args.expect (g.H.Containers.list c.args.holders.now)) (omega (arith, b))).read

pub returns-clause-exit : goal.returns-clause-exit
returns-clause-exit g c = c.stretches.ensures.reads.exit

pub returns-clause-reads : goal.returns-clause-reads
returns-clause-reads g c = c.stretches.ensures.reads.read

pub returns-clause-within : goal.returns-clause-within
returns-clause-within g c =
    let r = c.stretches in
    let w = c.requires.within in
    reads-within c.args.most c.args.text.now c.args.from r.result.0 c.args.expect r.result.1 (g.H.Containers.list c.args.holders.now) (g.H.Containers.list r.new.holders) r.ensures.reads w.0
