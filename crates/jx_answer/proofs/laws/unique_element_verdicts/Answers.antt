use Rattle.jx_answer.proofs.Ones.{all_judged_by, one_judged}
use Rattle.jx_answer.proofs.laws.unique_element_verdicts.Goals as goal

pub returns-clause-within_a_depth : goal.returns-clause-within_a_depth
returns-clause-within_a_depth c = λ input depth xs ys h k. one_judged c.unique_tree.ensures.one_tree c.unique_verdict.ensures.one_verdict input depth xs ys h k

pub returns-clause-by_settings : goal.returns-clause-by_settings
returns-clause-by_settings c = λ settings input xs ys h k. all_judged_by c.unique_tree.ensures.one_tree c.unique_verdict.ensures.one_verdict settings input xs ys h k
