use Rattle.jx_ndjson.proofs.LineLaws.{told_are_ended}
use Rattle.jx_ndjson.proofs.laws.ended_lines_of_a_reader.Goals as goal

pub returns : goal.returns
returns c = record { told = told_are_ended }
