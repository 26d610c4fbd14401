use Rattle.std.proofs.Common.{◌≡◌, [], refl, sym, ◌∙◌, arith, true, false}
use Rattle.jx_index.proofs.InOrders.{none_of}
use Rattle.jx_find.proofs.Soughts.{has_whole, name_tells, skipped_no_name, token_tells}
use Rattle.jx_index.specs.inside.Found.{finding}
use Rattle.jx_find.proofs.on_slice.OnSliceTokenSink.token.Goals as goal

pub returns-then-self-ne0-clause-seen : goal.returns-then-self-ne0-clause-seen
returns-then-self-ne0-clause-seen g c = λ marks ends h.
    let k = c.args.self.now in
    has_whole g.B.Before.held g.B.Before.slice g.B.Before.edges marks ends k.slice.now k.base k.edges.now k.seeker c.args.mark _ _ c.args.to k.seeker k.begun k.name.items k.name.items [] refl refl
    c.requires.kind (none_of k.begun c.requires.turn)
    (token_tells k.edges.now c.args.mark.kind _ _ [] k.seeker c.requires.kind (omega (arith, c.if-self-ne0.true)))
    (λ next before future base name_is. absurd (skipped_no_name c.args.mark.kind (finding k.seeker.state) (omega (arith, c.if-self-ne0.true)) next)) h

pub returns-then-is_name_next-clause-seen : goal.returns-then-is_name_next-clause-seen
returns-then-is_name_next-clause-seen g c = λ marks ends h.
    let k = c.args.self.now in
    let next = sym c.is_name_next.ensures ∙ c.if-is_name_next.true in
    has_whole g.B.Before.held g.B.Before.slice g.B.Before.edges marks ends k.slice.now k.base k.edges.now k.seeker c.args.mark _ _ c.args.to c.name.new.self k.begun k.name.items k.name.items c.in_ok-name.name.now
    refl refl c.requires.kind (none_of k.begun c.requires.turn)
    (name_tells k.edges.now c.args.mark.kind _ _ c.in_ok-name.name.now k.seeker c.name.new.self next c.name.ensures.noted c.name.ensures.next)
    (λ next before future base name_is. c.in_ok-name.ensures before future k.base base) h

pub returns-clause-seen : goal.returns-clause-seen
returns-clause-seen g c = λ marks ends h.
    let k = c.args.self.now in
    let other = sym c.is_name_next.ensures ∙ c.if-is_name_next.false in
    has_whole g.B.Before.held g.B.Before.slice g.B.Before.edges marks ends k.slice.now k.base k.edges.now k.seeker c.args.mark c.in_ok-at.at c.in_ok-end.end c.args.to c.tell.new.self k.begun k.name.items _ []
    c.in_ok-at.ensures c.in_ok-end.ensures c.requires.kind (none_of k.begun c.requires.turn)
    (record { noted = c.in_ok-tell.ensures.noted; ready = c.in_ok-tell.ensures.next })
    (λ next before future base name_is. let clash : false ≡ true = sym other ∙ next in cc) h
