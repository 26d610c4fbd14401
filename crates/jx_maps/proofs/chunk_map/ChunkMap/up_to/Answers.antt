use Rattle.std.proofs.Common.{◌≤◌, [], arith, inl, inr, length, replicate, true, subst, sym, ◌∙◌}
use Rattle.std.specs.Prelude.{slice_range}
use Rattle.jx_maps.specs.inside.Bundle.{Bundle, IsBundleOf, Stands, live_count}
use Rattle.jx_maps.specs.inside.Closed.{AreClosed}
use Rattle.jx_maps.specs.Map.{ArePlaced}
use Rattle.jx_lex.specs.Ordinal.{all_states}
use Rattle.jx_maps.proofs.Building.{IsOf-reads, IsWhole-reads, shared-all}
use Rattle.jx_maps.proofs.Bundles.{Reads-joined, Stands-joined}
use Rattle.jx_maps.proofs.Fewness.{LeaveTwo, live-two, two-read_on, map-two}
use Rattle.jx_maps.proofs.ReadingOn.{Reads-rest, span-read}
use Rattle.jx_lex.proofs.Slices.{slice-none, slice-split, slice-length}
use Rattle.jx_maps.proofs.chunk_map.ChunkMap.up_to.Goals as goal
use Rattle.jx_maps.proofs.chunk_map.ChunkMap.up_to.Goals.{After-heads-1, then-loop-at-test+else-count_live-gt2, else-loop-at-test}

pub loop-at-init : goal.loop-at-init
loop-at-init c =
    let r = c.requires in
    record {
      low = omega arith;
      high = omega (arith, r.0, r.1);
      reads = rw (slice-none c.args.text.now c.args.start) (c.unread-bundle.ensures.reads c.args.start);
      stands = rw (slice-none c.args.text.now c.args.start) c.unread-bundle.ensures.stands;
    }

pub loop-at-preserved : goal.loop-at-preserved
loop-at-preserved c =
    let v = c.loop-at.invariant in
    let xs = c.args.text.now in
    let start = c.args.start in
    let at = c.loop-at.at in
    let some = c.in_ok-next in
    let after = some.after in
    let next = some.next in
    let w = slice_range xs at after in
    let fits = c.requires.2 in
    let test = c.loop-at-test.true in
    let low = v.low in
    let b = some.ensures.bounds in
    let here = slice-length xs start at v.low (omega (arith, test, fits)) in
    let more = slice-split xs start at after v.low (omega (arith, b)) in
    let reads = subst (λ (b : Bundle). IsBundleOf at w b.live next) c.bundle.view_is some.ensures.reads in
    let stands = subst (λ (b : Bundle). Stands w b.live next) c.bundle.view_is some.ensures.stands in
    record {
      low = omega (arith, low, b);
      high = b.1;
      reads = rw (c.in_ok-join.ensures, more) (Reads-joined start at (slice_range xs start at) w (replicate 32 true) c.loop-at.bundle next here v.reads v.stands reads);
      stands = rw (c.in_ok-join.ensures, more) (Stands-joined (slice_range xs start at) w (replicate 32 true) c.loop-at.bundle next v.reads.all v.stands stands);
    }

pub join-requires-2 : goal.join-requires-2
join-requires-2 c =
    let at = c.loop-at.at in
    let r = Reads-rest at (slice_range c.args.text.now at c.max-to.result) c.bundle.inside.live c.in_ok-open.field-0 c.in_ok-rest.rest (c.in_ok-open.ensures.reads at) c.in_ok-open.ensures.stands
    c.in_ok-open.ensures.closed c.in_ok-rest.ensures.heads c.in_ok-rest.ensures.live c.in_ok-rest.ensures.read in
    record { inside = r.heads }

-- the whole span was read
whole : (c : After-heads-1)
    → IsBundleOf c.args.start (slice_range c.args.text.now c.args.start c.max-to.result) (replicate 32 true)
    (record { heads = c.bundle-2.inside.heads; segments = c.bundle-2.inside.segments.items; live = c.bundle-2.inside.live })
    × AreClosed 0 c.bundle-2.inside.heads c.bundle-2.inside.segments.items
whole c =
    let v = c.loop-at.invariant in
    let xs = c.args.text.now in
    let start = c.args.start in
    let at = c.loop-at.at in
    let fits = c.requires.2 in
    let high = v.high in
    let to = c.max-to.result in
    let late : (at ≤ to) × (to ≤ length xs) = (omega (arith, c.max-to.ensures), let r = c.requires in omega (arith, high, c.max-to.ensures, r.1, r.2)) in
    let o = c.in_ok-open.field-0 in
    let b : Bundle = record { heads = c.bundle-2.inside.heads; segments = c.bundle-2.inside.segments.items; live = c.bundle-2.inside.live } in
    subst (λ bytes. IsBundleOf start bytes (replicate 32 true) b × AreClosed 0 b.heads b.segments) (sym (slice-split xs start at to v.low late.0))
    (span-read start at (slice_range xs start at) (slice_range xs at to) (replicate 32 true) c.loop-at.bundle o c.in_ok-rest.rest b
    (slice-length xs start at v.low (omega (arith, high, fits))) v.reads v.stands
    (subst (λ (l : Bundle). IsBundleOf at [] l.live o) c.bundle.view_is (c.in_ok-open.ensures.reads at))
    (subst (λ (l : Bundle). Stands [] l.live o) c.bundle.view_is c.in_ok-open.ensures.stands)
    c.in_ok-open.ensures.closed c.in_ok-rest.ensures.heads c.in_ok-rest.ensures.live c.in_ok-rest.ensures.read
    (c.bundle-2.view_is ∙ c.in_ok-join-2.ensures))

-- where the bytes that were read end
last : (c : After-heads-1) → (c.args.start ≤ c.max-to.result) × (c.max-to.result ≤ length c.args.text.now)
last c =
    let low = c.loop-at.invariant.low in
    let high = c.loop-at.invariant.high in
    let r = c.requires in
    (omega (arith, low, c.max-to.ensures), omega (arith, high, c.max-to.ensures, r.1, r.2))

pub invariant_of-result : goal.invariant_of-result
invariant_of-result c = (IsWhole-reads c.args.start c.max-to.result _ _ _ (whole c).0, (whole c).1)

pub returns-clause-of : goal.returns-clause-of
returns-clause-of c = IsOf-reads c.args.start c.max-to.result _ _ (slice-length c.args.text.now c.args.start c.max-to.result (last c).0 (last c).1) (whole c).0

pub returns-clause-stored : goal.returns-clause-stored
returns-clause-stored c = (whole c).0.counted all_states (shared-all [])

pub returns-clause-placed : goal.returns-clause-placed
returns-clause-placed c =
    subst (λ n. ArePlaced c.args.start n c.bundle-2.inside.segments.items) (sym (slice-length c.args.text.now c.args.start c.max-to.result (last c).0 (last c).1)) (whole c).0.placed

-- behind the bytes that were read side by side at most two states are live, so behind all of them there are at most two
few : (c : After-heads-1) → live_count c.bundle.inside.live ≤ 2 → LeaveTwo c.args.start (slice_range c.args.text.now c.args.start c.max-to.result)
few c count =
    let v = c.loop-at.invariant in
    let xs = c.args.text.now in
    let start = c.args.start in
    let at = c.loop-at.at in
    let to = c.max-to.result in
    let late : at ≤ to = omega (arith, c.max-to.ensures) in
    let live : live_count c.loop-at.bundle.live ≤ 2 = subst (λ (b : Bundle). live_count b.live ≤ 2) c.bundle.view_is count in
    subst (λ bytes. LeaveTwo start bytes) (sym (slice-split xs start at to v.low late))
    (two-read_on start (slice_range xs start at) (slice_range xs at to) (live-two start (slice_range xs start at) c.loop-at.bundle v.reads v.stands live))

pub returns-clause-few : goal.returns-clause-few
returns-clause-few c =
    elim c.loop-at-test.branch [
      | then-loop-at-test+else-count_live-gt2 w ↦ inr (map-two _ _ (returns-clause-of c) (few c (omega (arith, w.count_live.ensures, w.if-count_live-gt2.false))))
      | else-loop-at-test w ↦ (
          let high = c.loop-at.invariant.high in
          let r = c.requires in
          inl (omega (arith, high, w.loop-at-test.false, c.max-to.ensures, r.1)))
    ]
