use Rattle.jx_answer.proofs.ByNames.{any_element}
use Rattle.jx_answer.proofs.laws.verdict_without_a_rule_on_names.Goals as goal

pub returns-clause-verdict : goal.returns-clause-verdict
returns-clause-verdict c = c.repeated_name_by_rows.ensures.any

pub returns-clause-element : goal.returns-clause-element
returns-clause-element c = λ settings input p e is. any_element settings input p e is
