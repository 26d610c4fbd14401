use Rattle.std.proofs.Common.{ℕ, sym, subst}
use Rattle.std.proofs.lemmas.Result.{IfOk-weaker}
use Rattle.jx_index.specs.declared.text_answer.TextAnswer.{TextAnswer}
use Rattle.jx_index.proofs.Fronts.{behind_answer}
use Rattle.jx_index.specs.Settled.{IsAnswerFrom, IsReadBy}
use Rattle.jx_answer.proofs.bytes.texts.index_behind_front.Goals as goal

pub returns-in_ok-rest-in-Skip : goal.returns-in_ok-rest-in-Skip
returns-in_ok-rest-in-Skip g c =
    let text = c.args.text.now in
    let settings = c.args.settings.now in
    let rest = c.in_ok-rest-in-Skip in
    let count = c.in-Skip.count in
    let law = c.index_behind_a_front.ensures in
    record {
      answer = IfOk-weaker c.index_rest.result (λ (a : TextAnswer). IsAnswerFrom rest.rest.front text settings.depth a) (λ (a : TextAnswer). IsReadBy settings text a)
          (λ a h. behind_answer settings text count (λ i k. law.index settings text count i (sym c.in-Skip.ensures.value) k) (λ v k. law.verdict settings text count v (sym c.in-Skip.ensures.value) k) a
          (subst (λ (n : ℕ). IsAnswerFrom n text settings.depth a) rest.ensures.front h))
          c.index_rest.ensures.answer;
    }
