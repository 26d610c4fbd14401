use Rattle.jx_ndjson.proofs.Sequences.{elements_begin, elements_stay}
use Rattle.jx_ndjson.proofs.laws.ended_elements_of_a_prefix.Goals as goal

pub returns : goal.returns
returns c = record { stay = elements_stay; all = elements_begin }
