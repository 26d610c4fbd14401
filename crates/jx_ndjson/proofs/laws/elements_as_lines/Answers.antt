use Rattle.jx_ndjson.proofs.Cuts.{parts-alike}
use Rattle.jx_ndjson.proofs.laws.elements_as_lines.Goals as goal

pub returns : goal.returns
returns c = record { alike = parts-alike }
