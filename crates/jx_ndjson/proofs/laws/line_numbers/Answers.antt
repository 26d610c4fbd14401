use Rattle.jx_ndjson.proofs.LineLaws.{count_is, number_is}
use Rattle.jx_ndjson.proofs.laws.line_numbers.Goals as goal

pub returns : goal.returns
returns c = record { count = count_is; numbers = number_is }
