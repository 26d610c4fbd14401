use Rattle.std.proofs.Common.{refl, sym, ◌∙◌}
use Rattle.jx_index.proofs.InOrders.{none_of}
use Rattle.jx_names.specs.inside.KeptNames.{kept}
use Rattle.jx_names.proofs.Telling.{has_plain, has_token}
use Rattle.jx_names.proofs.on_slice.OnSliceTokenSink.begin.Goals as goal

pub returns-then-has_end-clause-seen : goal.returns-then-has_end-clause-seen
returns-then-has_end-clause-seen g c = λ marks ends h.
    let k = c.args.self.now in
    has_token g.B.Before.held g.B.Before.slice marks ends k.slice.now k.base (kept k.names) c.args.mark c.in_ok-at.at k.begun k.name.items c.in_ok-at.ensures
    (sym c.has_end.ensures ∙ c.if-has_end.true) (none_of k.begun c.requires) h

pub returns-clause-seen : goal.returns-clause-seen
returns-clause-seen g c = λ marks ends h.
    let k = c.args.self.now in
    has_plain g.B.Before.held g.B.Before.slice marks ends k.slice.now k.base (kept k.names) c.args.mark _ (kept c.structural.new.self) k.begun k.name.items refl
    (sym c.has_end.ensures ∙ c.if-has_end.false) (none_of k.begun c.requires) (λ text b end name x. c.in_ok-structural.ensures text b _ end x) h
