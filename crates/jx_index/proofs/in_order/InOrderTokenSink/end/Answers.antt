use Rattle.jx_index.proofs.InOrders.{ends_token}
use Rattle.jx_index.proofs.in_order.InOrderTokenSink.end.Goals as goal

pub returns-clause-seen : goal.returns-clause-seen
returns-clause-seen g c = λ marks ends seen.
    let k = c.args.self.now in
    ends_token (g.B.Marking.holds k.builder) marks ends k.begun seen (g.B.Marking.holds c.take.new.self) c.in-Some.mark c.args.at c.in-Some.is c.in_ok-take.ensures
