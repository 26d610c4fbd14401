use Rattle.jx_answer.proofs.ByNames.{one_verdict_by}
use Rattle.jx_answer.proofs.laws.unique_verdicts_by_settings.Goals as goal

pub returns : goal.returns
returns c = record {
  verdict = λ settings bytes x y h k.
      one_verdict_by c.unique_tree_by_settings.ensures.one_tree c.unique_verdict_by_settings.ensures.one_verdict settings bytes x y h k;
}
