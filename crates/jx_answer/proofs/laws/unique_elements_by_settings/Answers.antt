use Rattle.jx_answer.proofs.Ones.{one_elements_by}
use Rattle.jx_answer.proofs.laws.unique_elements_by_settings.Goals as goal

pub returns : goal.returns
returns c = record {
  elements = λ settings input xs ys h k. one_elements_by c.unique_tree.ensures.one_tree c.unique_verdict.ensures.one_verdict settings input xs ys h k;
}
