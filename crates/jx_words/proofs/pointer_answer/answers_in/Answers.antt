use Rattle.std.proofs.Common.{arith}
use Rattle.jx_words.specs.inside.ReadPointers.{answer_in}
use Rattle.jx_words.proofs.PointerSteps.{answers_all, answers_step, no_answers}
use Rattle.jx_words.proofs.pointer_answer.answers_in.Goals as goal

pub loop-at-init : goal.loop-at-init
loop-at-init c = no_answers answer_in c.args.unread.now c.args.found.now c.in_ok-answers.answers.items c.in_ok-answers.ensures.items

pub loop-at-preserved : goal.loop-at-preserved
loop-at-preserved c =
    answers_step answer_in c.args.unread.now c.args.found.now c.loop-at.at _ _ c.loop-at.answers.items c.push.new.self.items c.answer_in.result
    (omega (arith, c.loop-at-test.true, c.min-count.ensures)) (omega (arith, c.loop-at-test.true, c.min-count.ensures))
    c.loop-at.invariant c.answer_in.ensures c.in_ok-push.ensures.items

pub returns : goal.returns
returns c =
    answers_all answer_in c.args.unread.now c.args.found.now c.loop-at.at c.loop-at.answers.items (omega (arith, c.loop-at-test.false, c.min-count.ensures)) c.loop-at.invariant
