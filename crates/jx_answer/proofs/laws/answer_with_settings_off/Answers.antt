use Rattle.jx_answer.proofs.Unmarked.{same_answers, same_elements}
use Rattle.jx_answer.proofs.laws.answer_with_settings_off.Goals as goal

pub returns-clause-text : goal.returns-clause-text
returns-clause-text c = λ settings text answer mark names.
    same_answers c.verdicts_with_a_refused_mark.ensures.texts c.verdicts_with_a_refused_mark.ensures.verdict c.verdict_without_a_rule_on_names.ensures.verdict settings mark names text answer

pub returns-clause-elements : goal.returns-clause-elements
returns-clause-elements c = λ settings input elements mark names.
    same_elements c.verdicts_with_a_refused_mark.ensures.texts c.verdicts_with_a_refused_mark.ensures.verdict c.verdict_without_a_rule_on_names.ensures.verdict settings mark names input elements
