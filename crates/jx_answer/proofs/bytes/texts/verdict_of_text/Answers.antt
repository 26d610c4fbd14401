use Rattle.std.proofs.lemmas.Result.{IfOk-weaker}
use Rattle.jx_answer.proofs.bytes.texts.verdict_of_text.Goals as goal

pub returns-in-Any : goal.returns-in-Any
returns-in-Any g c = record {
  verdict = IfOk-weaker c.verdict_whatever_names.result _ _
      (λ v h. (c.verdict_without_a_rule_on_names.ensures.verdict c.args.settings.now c.args.text.now v c.in-Any.is).1 h) c.verdict_whatever_names.ensures.verdict;
}
