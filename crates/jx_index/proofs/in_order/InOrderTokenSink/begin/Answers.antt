use Rattle.std.proofs.Common.{sym, ◌∙◌}
use Rattle.jx_index.proofs.InOrders.{begins, none_of, takes}
use Rattle.jx_index.proofs.in_order.InOrderTokenSink.begin.Goals as goal

pub returns-then-has_end-clause-seen : goal.returns-then-has_end-clause-seen
returns-then-has_end-clause-seen g c = λ marks ends seen.
    let k = c.args.self.now in
    begins (g.B.Marking.holds k.builder) marks ends k.begun seen c.args.mark (sym c.has_end.ensures ∙ c.if-has_end.true) (none_of k.begun c.requires)

pub returns-clause-seen : goal.returns-clause-seen
returns-clause-seen g c = λ marks ends seen.
    let k = c.args.self.now in
    takes (g.B.Marking.holds k.builder) marks ends k.begun seen (g.B.Marking.holds c.take.new.self) c.args.mark (sym c.has_end.ensures ∙ c.if-has_end.false) (none_of k.begun c.requires) c.in_ok-take.ensures
