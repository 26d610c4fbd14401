use Rattle.jx_answer.proofs.Ones.{one_answer, one_elements}
use Rattle.jx_answer.proofs.laws.unique_answer.Goals as goal

pub returns-clause-text : goal.returns-clause-text
returns-clause-text c = λ text depth x y h k. one_answer c.unique_tree.ensures.one_tree c.unique_verdict.ensures.one_verdict text depth x y h k

pub returns-clause-elements : goal.returns-clause-elements
returns-clause-elements c = λ input depth xs ys h k. one_elements c.unique_tree.ensures.one_tree c.unique_verdict.ensures.one_verdict input depth xs ys h k
