use Rattle.std.proofs.Common.{subst}
use Rattle.jx_index.specs.declared.text_answer.TextAnswer.{TextAnswer}
use Rattle.jx_index.specs.declared.text_answer.TextAnswer.TheVariants.{Accepted}
use Rattle.jx_answer.specs.Answers.{IsAnswer}
use Rattle.test_examples.specs.LookUps.{IsSpan}
use Rattle.test_examples.proofs.Led.{in_bytes, text_there}
use Rattle.test_examples.proofs.pointers.look_up.Goals as goal

pub returns-in-Accepted : goal.returns-in-Accepted
returns-in-Accepted g c =
    let text = c.args.text.now in
    let pointer = c.args.pointer.now in
    let index = c.in-Accepted.index in
    let there : IsAnswer text 512 c.in_ok-index.field-0 = subst (λ d. IsAnswer text d c.in_ok-index.field-0) c.default-depth.ensures c.in_ok-index.ensures.answer in
    let read : IsAnswer text 512 (Accepted index) = subst (λ (a : TextAnswer). IsAnswer text 512 a) c.in-Accepted.is there in
    let x = read.1 in
    in_bytes text x.tree pointer 512 x.is_text c.span_of.result
    (subst (λ t. IsSpan t x.tree pointer c.span_of.result) x.text (c.span_of.ensures 512 x.tree (text_there text 512 index x)))
