use Rattle.std.proofs.Common.{[], ℕ, ◌+◌, List, length, subst, sym, ap, ◌∙◌, arith}
use Rattle.std.specs.Prelude.{slice_range}
use Rattle.jx_maps.specs.declared.link.Link.{Link}
use Rattle.jx_maps.specs.inside.Bundle.{Bundle, IsBundleOf, Stands, joined_bundle}
use Rattle.jx_maps.specs.Follow.{IsIn, head}
use Rattle.jx_maps.proofs.SideBySide.{some-read, Reads-open_on}
use Rattle.jx_maps.proofs.side_by_side.read_some.Goals as goal
use Rattle.jx_maps.proofs.side_by_side.read_some.Goals.{In_ok-join}

pub join-requires : goal.join-requires
join-requires c =
    let rest = c.in_ok-rest.rest in
    let at = c.args.at + 1 in
    let open' = c.in_ok-open in
    let r = Reads-open_on at (slice_range c.args.text.now at c.in_ok-rest.after) c.byte.inside.live rest.live open'.open rest.segments (open'.ensures.reads at) open'.ensures.stands open'.ensures.closed c.in_ok-rest.ensures.read in
    record { inside = λ s. subst (λ (hs : List Link). IsIn (length rest.segments) (head hs s)) (sym c.in_ok-rest.ensures.heads) (r.heads s) }

both : (c : In_ok-join) → IsBundleOf c.args.at (slice_range c.args.text.now c.args.at c.in_ok-rest.after) c.args.live.now c.join.new.self
    × Stands (slice_range c.args.text.now c.args.at c.in_ok-rest.after) c.args.live.now c.join.new.self
both c =
    let b = c.in_ok-rest.ensures.bounds in
    let fits = c.requires.1 in
    let rest = c.in_ok-rest.rest in
    some-read c.args.text.now c.args.at c.in_ok-rest.after c.args.live.now c.in_ok-rest.rest.live c.in_ok-byte.byte c.in_ok-open.open c.join.new.self c.in_ok-rest.rest.segments
    (omega (arith, b)) (omega (arith, b, fits)) c.in_ok-byte.ensures.reads c.in_ok-byte.ensures.stands
    (subst (λ (b : Bundle). (k : ℕ) → IsBundleOf k [] b.live c.in_ok-open.open) c.byte.view_is c.in_ok-open.ensures.reads)
    (subst (λ (b : Bundle). Stands [] b.live c.in_ok-open.open) c.byte.view_is c.in_ok-open.ensures.stands)
    c.in_ok-open.ensures.closed c.in_ok-rest.ensures.read c.in_ok-rest.ensures.stand
    (c.in_ok-join.ensures ∙ ap (λ (hs : List Link). joined_bundle c.in_ok-byte.byte (record { heads = hs; segments = rest.segments; live = rest.live })) c.in_ok-rest.ensures.heads)

pub returns-clause-reads : goal.returns-clause-reads
returns-clause-reads c = (both c).0

pub returns-clause-stands : goal.returns-clause-stands
returns-clause-stands c = (both c).1
