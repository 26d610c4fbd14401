use Rattle.jx_reduce.proofs.Spans.{SpansIn_wider, before_of_spans}
use Rattle.jx_reduce.proofs.laws.spans_of_offsets.Goals as goal

pub returns : goal.returns
returns c = record { wider = λ low high less more f. SpansIn_wider low high less more f; before = before_of_spans }
