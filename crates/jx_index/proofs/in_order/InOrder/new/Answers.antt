use Rattle.jx_index.proofs.InOrders.{nothing_seen}
use Rattle.jx_index.proofs.in_order.InOrder.new.Goals as goal

pub returns-clause-seen : goal.returns-clause-seen
returns-clause-seen g c = nothing_seen (g.B.Marking.holds c.args.builder) c.requires
