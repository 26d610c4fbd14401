use Rattle.std.proofs.Common.{◌<◌, ◌+◌, ◌^◌, IfSome, subst, arith}
use Rattle.jx_reduce.proofs.Cuts.{RisingFrom-push, below-push}
use Rattle.jx_lex.specs.declared.alphabet.mark.Mark.{Mark}
use Rattle.test_calls.proofs.Marks.{each_below}
use Rattle.test_calls.proofs.reduce.marks.marks_of.Goals as goal

pub loop-spelt-preserved : goal.loop-spelt-preserved
loop-spelt-preserved c =
    let marks = c.loop-spelt.marks.items in
    let mark = c.in_ok-mark.mark in
    let near : mark.at < 2 ^ 32 = subst (λ r. IfSome r (λ (m : Mark). m.at < 2 ^ 32)) c.in_ok-mark.ensures.ok_part c.mark_of.ensures in
    let was = each_below c.loop-spelt.low mark.at marks (omega (arith, c.if-mark-low.false)) c.loop-spelt.invariant.below in
    record {
      rising = rw c.in_ok-push.ensures.items (RisingFrom-push 0 0 marks mark (omega arith) c.loop-spelt.invariant.rising was);
      below = rw c.in_ok-push.ensures.items (below-push 0 (mark.at + 1) marks mark (omega arith) (omega arith) was);
      low = omega (arith, near);
    }

pub returns-clause-low : goal.returns-clause-low
returns-clause-low c = each_below c.loop-spelt.low (2 ^ 32) c.loop-spelt.marks.items c.loop-spelt.invariant.low c.loop-spelt.invariant.below
