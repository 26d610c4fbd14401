use Rattle.std.proofs.Common.{sym, ◌∙◌}
use Rattle.jx_index.proofs.InOrders.{begins, none_of, takes}
use Rattle.jx_around.specs.inside.Collecting.{Follows, collecting}
use Rattle.jx_around.proofs.Collects.{taken}
use Rattle.jx_around.proofs.on_tokens.OnTokensTokenSink.begin.Goals as goal

pub returns-then-has_end-clause-seen : goal.returns-then-has_end-clause-seen
returns-then-has_end-clause-seen g c = λ marks ends seen.
    let k = c.args.self.now in
    begins (Follows g.O.Offset.offset (collecting k.collector)) marks ends k.begun seen c.args.mark (sym c.has_end.ensures ∙ c.if-has_end.true) (none_of k.begun c.requires)

pub returns-clause-seen : goal.returns-clause-seen
returns-clause-seen g c = λ marks ends seen.
    let k = c.args.self.now in
    let old = collecting k.collector in
    let new = collecting c.take.new.self in
    let m = c.args.mark in
    takes (Follows g.O.Offset.offset old) marks ends k.begun seen (Follows g.O.Offset.offset new) m (sym c.has_end.ensures ∙ c.if-has_end.false) (none_of k.begun c.requires)
    (λ b fits is_low h. taken g.O.Offset.offset old new m.kind m.at 0 b c.in_ok-take.ensures is_low h)
