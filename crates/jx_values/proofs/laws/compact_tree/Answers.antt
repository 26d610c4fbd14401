use Rattle.jx_values.proofs.Copies.{reads_alike}
use Rattle.jx_values.proofs.laws.compact_tree.Goals as goal

pub returns : goal.returns
returns c = reads_alike
