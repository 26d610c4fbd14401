use Rattle.jx_report.proofs.OneOutput.{one_output}
use Rattle.jx_report.proofs.laws.unique_output.Goals as goal

pub returns : goal.returns
returns c = λ task settings input x y e f h k.
    one_output c.unique_tree_by_settings.ensures.one_tree c.unique_verdicts_by_settings.ensures.verdict c.unique_elements_by_settings.ensures.elements task settings input x y e f h k
