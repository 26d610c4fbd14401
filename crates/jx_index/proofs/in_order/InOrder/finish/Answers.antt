use Rattle.jx_index.proofs.InOrders.{all_made, last_made}
use Rattle.jx_index.proofs.in_order.InOrder.finish.Goals as goal

pub returns-in_default : goal.returns-in_default
returns-in_default g c = λ marks ends low seen. all_made (g.B.Marking.holds c.args.self.builder) marks ends c.args.self.begun seen c.args.last c.in_default.is low

pub returns : goal.returns
returns g c = λ marks ends low seen.
    last_made (g.B.Marking.holds c.args.self.builder) marks ends c.args.self.begun seen (g.B.Marking.holds c.take.new.self) c.in-Some.mark c.args.last c.in-Some.is c.in_ok-take.ensures low
