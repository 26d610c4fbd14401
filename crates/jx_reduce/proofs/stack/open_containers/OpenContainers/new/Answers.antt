use Rattle.jx_reduce.proofs.KnownWords.{nothing}
use Rattle.std.proofs.Common.{refl}
use Rattle.jx_reduce.proofs.stack.open_containers.OpenContainers.new.Goals as goal

pub returns : goal.returns
returns c = nothing 0 0 _ refl c.new.ensures.items
