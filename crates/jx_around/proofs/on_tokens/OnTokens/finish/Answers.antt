use Rattle.jx_index.proofs.InOrders.{all_made, last_made}
use Rattle.jx_around.specs.inside.Collecting.{Follows, collecting}
use Rattle.jx_around.proofs.Collects.{taken}
use Rattle.jx_around.proofs.on_tokens.OnTokens.finish.Goals as goal

pub returns-in_default : goal.returns-in_default
returns-in_default g c = λ marks ends low seen.
    all_made (Follows g.O.Offset.offset (collecting c.args.self.collector)) marks ends c.args.self.begun seen c.args.last c.in_default.is low

pub returns : goal.returns
returns g c = λ marks ends low seen.
    let old = collecting c.args.self.collector in
    let new = collecting c.take.new.self in
    let m = c.in-Some.mark in
    last_made (Follows g.O.Offset.offset old) marks ends c.args.self.begun seen (Follows g.O.Offset.offset new) m c.args.last c.in-Some.is
    (λ b fits is_low h. taken g.O.Offset.offset old new m.kind m.at c.args.last b c.in_ok-take.ensures is_low h) low
