use Rattle.std.proofs.Common.{◌≡◌, ◌∙◌, get_or, sym}
use Rattle.std.proofs.lemmas.Option.{get_or_from_slice_get}
use Rattle.jx_words.proofs.LineSteps.{exit_step, exit_done}
use Rattle.jx_words.proofs.pointer_answer.exit_of_answers.Goals as goal

pub loop-number-preserved : goal.loop-number-preserved
loop-number-preserved c =
    let i = c.loop-number.number in
    let answers = c.args.answers.now in
    let answer = c.answer_at-answer.result in
    let is : answer ≡ get_or answers i answer = sym (get_or_from_slice_get answers i answer answer c.answer_at-answer.ensures) in
    exit_step i answers answer answer c.loop-number.exit c.exit_after-exit.result c.loop-number-test.true is c.exit_after-exit.ensures ∙ c.loop-number.invariant

pub returns : goal.returns
returns c = sym (exit_done c.loop-number.number c.args.answers.now c.loop-number.exit c.loop-number-test.false) ∙ c.loop-number.invariant
