use Rattle.jx_compact.proofs.Compacts.{goes_on}
use Rattle.jx_compact.proofs.laws.compact_of_two_parts.Goals as goal

pub returns : goal.returns
returns c = goes_on
