use Rattle.jx_answer.proofs.ByNames.{one_verdict_by}
use Rattle.jx_answer.proofs.OneAnswer.{one_answer_by}
use Rattle.jx_answer.proofs.laws.unique_answer_by_settings.Goals as goal

pub returns : goal.returns
returns c =
    let one_tree = c.unique_tree_by_settings.ensures.one_tree in
    let one_verdict = c.unique_verdict_by_settings.ensures.one_verdict in
    record { text = λ settings bytes x y h k. one_answer_by one_tree settings bytes (one_verdict_by one_tree one_verdict settings bytes) x y h k }
