use Rattle.jx_ndjson_report.proofs.ElementTakes.{as_by_seq}
use Rattle.jx_ndjson_report.proofs.laws.output_as_of_seq.Goals as goal

pub returns : goal.returns
returns c = record { same = as_by_seq }
