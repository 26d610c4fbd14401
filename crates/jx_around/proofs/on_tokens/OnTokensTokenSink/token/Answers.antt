use Rattle.std.proofs.Common.{[], ◌∷◌, ◌++◌, refl, sym, subst}
use Rattle.jx_index.specs.inside.InOrder.{HasSeen}
use Rattle.jx_index.proofs.InOrders.{begins, ends_token, none_of}
use Rattle.jx_around.specs.inside.Collecting.{Follows, collecting}
use Rattle.jx_around.proofs.Collects.{taken}
use Rattle.jx_around.proofs.on_tokens.OnTokensTokenSink.token.Goals as goal

pub returns-clause-seen : goal.returns-clause-seen
returns-clause-seen g c = λ marks ends seen.
    let k = c.args.self.now in
    let old = collecting k.collector in
    let new = collecting c.take.new.self in
    let m = c.args.mark in
    let free = none_of k.begun c.requires.turn in
    let begun = begins (Follows g.O.Offset.offset old) marks ends k.begun seen m c.requires.kind free in
    subst (HasSeen (Follows g.O.Offset.offset new) (marks ++ m ∷ []) (ends ++ c.args.to ∷ [])) (sym free)
    (ends_token (Follows g.O.Offset.offset old) (marks ++ m ∷ []) ends _ begun (Follows g.O.Offset.offset new) m c.args.to refl
    (λ b fits is_low h. taken g.O.Offset.offset old new m.kind m.at c.args.to b c.in_ok-take.ensures is_low h))
