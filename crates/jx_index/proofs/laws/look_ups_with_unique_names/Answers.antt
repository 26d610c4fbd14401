use Rattle.jx_index.proofs.Uniques.{never_repeated}
use Rattle.jx_index.proofs.laws.look_ups_with_unique_names.Goals as goal

pub returns : goal.returns
returns c = λ text start end limit tree t unique tokens token e. never_repeated text start end limit tree t unique tokens token e
