use Rattle.std.proofs.Common.{sym}
use Rattle.std.proofs.lemmas.Result.{IfOk-weaker}
use Rattle.jx_index.specs.declared.text_answer.TextAnswer.{TextAnswer}
use Rattle.jx_index.specs.Settled.{IsAnswerFrom, IsReadBy}
use Rattle.jx_index.proofs.Fronts.{behind_answer}
use Rattle.jx_index.proofs.text_answer.TextAnswer.read_behind_front.Goals as goal

pub returns-in-Skip : goal.returns-in-Skip
returns-in-Skip c =
    let text = c.args.text.now in
    let settings = c.args.settings.now in
    let count = c.in-Skip.count in
    let law = c.index_behind_a_front.ensures in
    IfOk-weaker c.read_from.result (λ (a : TextAnswer). IsAnswerFrom count text settings.depth a) (λ (a : TextAnswer). IsReadBy settings text a)
    (behind_answer settings text count (λ i k. law.index settings text count i (sym c.in-Skip.ensures.value) k) (λ v k. law.verdict settings text count v (sym c.in-Skip.ensures.value) k))
    c.read_from.ensures.answer
