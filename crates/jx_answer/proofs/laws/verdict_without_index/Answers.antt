use Rattle.jx_run.specs.Elements.{elements}
use Rattle.jx_run.specs.ElementVerdict.{IsJudgedElement}
use Rattle.jx_run.specs.MarkAlone.{elements_by}
use Rattle.jx_index.specs.ByNames.{IsJudgedBy}
use Rattle.jx_answer.specs.Sequence.{IsElement}
use Rattle.jx_answer.specs.Settled.{IsElementBy}
use Rattle.jx_answer.proofs.Verdicts.{all_answered, answered, answered_by}
use Rattle.jx_answer.proofs.laws.verdict_without_index.Goals as goal

pub returns-clause-within_a_depth : goal.returns-clause-within_a_depth
returns-clause-within_a_depth c = λ input depth verdicts h.
    all_answered (IsJudgedElement depth) (IsElement input depth) (λ p j k. answered input p depth j k) (elements 0 input) verdicts h

pub returns-clause-by_settings : goal.returns-clause-by_settings
returns-clause-by_settings c = λ settings input verdicts h.
    all_answered (IsJudgedBy settings input) (IsElementBy settings input) (λ p j k. answered_by input p settings j k) (elements_by settings.mark input) verdicts h
