use Rattle.std.proofs.Common.{◌≡◌, ℕ, ◌+◌, [], ◌++◌, refl, sym, ap, ◌∙◌, false}
use Rattle.std.specs.Prelude.{slice_range}
use Rattle.jx_index.proofs.InOrders.{none_of}
use Rattle.jx_names.specs.inside.KeptNames.{is_name_next, kept}
use Rattle.jx_names.proofs.Telling.{has_whole, part_there}
use Rattle.jx_names.proofs.on_slice.OnSliceTokenSink.token.Goals as goal

pub returns-then-not-is_name_next-clause-seen : goal.returns-then-not-is_name_next-clause-seen
returns-then-not-is_name_next-clause-seen g c = λ marks ends h.
    let k = c.args.self.now in
    let other : is_name_next c.args.mark.kind (kept k.names) ≡ false = sym c.is_name_next.ensures ∙ c.if-not-is_name_next.true in
    has_whole g.B.Before.held g.B.Before.slice marks ends k.slice.now k.base (kept k.names) c.args.mark _ c.args.to (kept c.scalar.new.self) k.begun k.name.items k.name.items [] refl c.requires.kind (none_of k.begun c.requires.turn)
    (λ text b end named s. c.in_ok-scalar.ensures text b c.args.mark.kind _ end c.requires.kind other s)
    (λ next before future base name_is. absurd cc) h

pub returns-clause-seen : goal.returns-clause-seen
returns-clause-seen g c = λ marks ends h.
    let k = c.args.self.now in
    let name = c.in_ok-name.ensures in
    has_whole g.B.Before.held g.B.Before.slice marks ends k.slice.now k.base (kept k.names) c.args.mark c.in_ok-at.at c.args.to (kept c.name.new.self) k.begun k.name.items k.name.items (slice_range k.slice.now c.args.mark.at c.args.to)
    c.in_ok-at.ensures c.requires.kind (none_of k.begun c.requires.turn)
    (λ text b end named s. let next = sym c.is_name_next.ensures ∙ c.if-not-is_name_next.false in name.stands text b c.args.mark.kind end next (named next) s)
    (λ next before future base name_is.
    part_there before k.slice.now future k.base c.args.mark.at c.args.to base name.within.0 name.within.1 ∙ ap (λ (i : ℕ). slice_range ((before ++ k.slice.now) ++ future) i (k.base + c.args.to)) (sym c.in_ok-at.ensures)) h
