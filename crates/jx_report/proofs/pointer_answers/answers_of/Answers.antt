use Rattle.std.proofs.Common.{◌∙◌, None, ap, arith, get_or}
use Rattle.jx_answer.specs.declared.find_answer.Answer.{Answer}
use Rattle.jx_report.specs.inside.IndexAnswers.{answer_of}
use Rattle.jx_words.proofs.PointerSteps.{answers_done, answers_step, no_answers}
use Rattle.jx_report.proofs.pointer_answers.answers_of.Goals as goal

pub loop-at-init : goal.loop-at-init
loop-at-init c = no_answers answer_of c.args.unread.now c.args.answered.now c.in_ok-answers.answers.items c.in_ok-answers.ensures.items

pub loop-at-preserved : goal.loop-at-preserved
loop-at-preserved c =
    let at = c.loop-at.at in
    let unread = c.args.unread.now in
    answers_step answer_of unread c.args.answered.now at None c.index-answered-at.result c.loop-at.answers.items c.push.new.self.items c.answer_of.result
    c.loop-at-test.true (omega (arith, c.loop-at-test.true, c.requires)) c.loop-at.invariant (c.answer_of.ensures ∙ ap (λ (a : Answer). answer_of (get_or unread at None) a) c.index-answered-at.is)
    c.in_ok-push.ensures.items

pub returns : goal.returns
returns c = answers_done answer_of c.args.unread.now c.args.answered.now c.loop-at.at c.loop-at.answers.items c.loop-at-test.false c.requires c.loop-at.invariant
