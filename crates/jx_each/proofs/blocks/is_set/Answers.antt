use Rattle.jx_each.proofs.Walking.{bit_of}
use Rattle.jx_each.proofs.blocks.is_set.Goals as goal

pub returns : goal.returns
returns c = bit_of c.args.bits c.args.at
