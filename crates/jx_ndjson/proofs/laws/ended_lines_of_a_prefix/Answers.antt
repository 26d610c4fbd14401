use Rattle.jx_ndjson.proofs.LineLaws.{ended_stay}
use Rattle.jx_ndjson.proofs.laws.ended_lines_of_a_prefix.Goals as goal

pub returns : goal.returns
returns c = record { stay = ended_stay }
