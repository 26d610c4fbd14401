use Rattle.jx_reduce.proofs.Structures.{spans_before, spans_wider}
use Rattle.jx_reduce.proofs.laws.spans_of_structures.Goals as goal

pub returns : goal.returns
returns c = record { wider = spans_wider; before = spans_before }
