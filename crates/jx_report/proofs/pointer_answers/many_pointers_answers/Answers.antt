use Rattle.std.proofs.Common.{map, subst}
use Rattle.std.specs.Prelude.{string_bytes}
use Rattle.jx_index.specs.Settled.{IsAnswerBy}
use Rattle.jx_index.specs.declared.text_answer.TextAnswer.{TextAnswer}
use Rattle.jx_report.proofs.PointerReplies.{indexed_answers}
use Rattle.jx_report.proofs.pointer_answers.many_pointers_answers.Goals as goal

pub returns-in_ok-answers-in-Accepted : goal.returns-in_ok-answers-in-Accepted
returns-in_ok-answers-in-Accepted g c =
    let settings = c.args.settings.now in
    let text = c.args.text.now in
    let h = subst (λ (a : TextAnswer). IsAnswerBy settings text a) c.in-Accepted.is c.in_ok-refusal.ensures.answer in
    indexed_answers c.index_behind_a_front.ensures.text settings text c.in-Accepted.index (map string_bytes c.args.pointers.now) c.in_ok-answers-in-Accepted.answers h.0 h.1
    c.in_ok-answers-in-Accepted.ensures
