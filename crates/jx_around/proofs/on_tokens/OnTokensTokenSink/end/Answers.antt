use Rattle.jx_index.proofs.InOrders.{ends_token}
use Rattle.jx_around.specs.inside.Collecting.{Follows, collecting}
use Rattle.jx_around.proofs.Collects.{taken}
use Rattle.jx_around.proofs.on_tokens.OnTokensTokenSink.end.Goals as goal

pub returns-clause-seen : goal.returns-clause-seen
returns-clause-seen g c = λ marks ends seen.
    let k = c.args.self.now in
    let old = collecting k.collector in
    let new = collecting c.take.new.self in
    let m = c.in-Some.mark in
    ends_token (Follows g.O.Offset.offset old) marks ends k.begun seen (Follows g.O.Offset.offset new) m c.args.at c.in-Some.is
    (λ b fits is_low h. taken g.O.Offset.offset old new m.kind m.at c.args.at b c.in_ok-take.ensures is_low h)
