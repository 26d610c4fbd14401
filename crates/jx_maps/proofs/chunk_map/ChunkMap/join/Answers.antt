use Rattle.std.proofs.Common.{◌≡◌, List, length, sym, subst, ap, ◌∙◌, arith}
use Rattle.jx_maps.specs.inside.Bundle.{AllLive}
use Rattle.jx_maps.specs.Follow.{SegmentValue}
use Rattle.jx_maps.specs.Map.{Map}
use Rattle.jx_maps.proofs.Joined.{IsWhole-joined, IsOf-joined}
use Rattle.jx_maps.proofs.Closing.{AreClosed-joined}
use Rattle.jx_maps.proofs.Counting.{stored-joined}
use Rattle.jx_maps.proofs.Pruning.{pruned_map, IsWhole-pruned, AreClosed-pruned, stored-pruned, track-pruned}
use Rattle.jx_maps.proofs.chunk_map.ChunkMap.join.Goals as goal

pub invariant_of-left : goal.invariant_of-left
invariant_of-left c =
    let n : c.len-len.result ≡ length c.left.inside.segments.items = omega arith in
    let rs = c.in-Ok.reached.items in
    rw (c.link_heads.ensures, c.in-Ok-append_reached.ensures.ok, n) (
      IsWhole-joined _ _ c.left.invariant.0 (IsWhole-pruned rs _ c.right.invariant.0),
      AreClosed-joined c.left.inside.heads c.right.inside.heads c.left.inside.segments.items _ c.left.inside.closed c.right.inside.closed c.left.invariant.0.all c.left.invariant.1
          (AreClosed-pruned c.right.inside.closed rs c.right.inside.heads c.right.inside.segments.items c.right.invariant.1),
    )

pub returns-in-Ok-append_reached-clause-tracks : goal.returns-in-Ok-append_reached-clause-tracks
returns-in-Ok-append_reached-clause-tracks c =
    let n : c.len-len.result ≡ length c.left.inside.segments.items = omega arith in
    let rs = c.in-Ok.reached.items in
    let live = c.exits-live.result in
    let count : c.len-count.result ≡ length c.right.inside.segments.items = omega arith in
    let segments = subst (λ (ps : List SegmentValue). AllLive live ps) c.deref.ensures.value c.exits-live.ensures.segments in
    rw (← c.left.view_is, ← c.right.view_is, c.link_heads.ensures, c.in-Ok-append_reached.ensures.ok, n)
    (track-pruned _ _ rs live c.left.invariant.0 c.right.invariant.0 (c.in-Ok.ensures.many ∙ count) c.exits-live.ensures.heads segments c.in-Ok.ensures.heads)

pub returns-in-Ok-append_reached-clause-of : goal.returns-in-Ok-append_reached-clause-of
returns-in-Ok-append_reached-clause-of c =
    let n : c.len-len.result ≡ length c.left.inside.segments.items = omega arith in
    let rs = c.in-Ok.reached.items in
    let live = c.exits-live.result in
    let count : c.len-count.result ≡ length c.right.inside.segments.items = omega arith in
    let segments = subst (λ (ps : List SegmentValue). AllLive live ps) c.deref.ensures.value c.exits-live.ensures.segments in
    let meet = ap (λ (m : Map). m.end) c.left.view_is ∙ c.requires ∙ sym (ap (λ (m : Map). m.start) c.right.view_is) in
    rw (← c.left.view_is, ← c.right.view_is, c.link_heads.ensures, c.in-Ok-append_reached.ensures.ok, n) (λ xs ys hl hr.
    let o = IsOf-joined _ _ xs ys c.left.invariant.0 meet hl hr in
    record { long = o.long; tracks = λ s. track-pruned _ _ rs live c.left.invariant.0 c.right.invariant.0 (c.in-Ok.ensures.many ∙ count) c.exits-live.ensures.heads segments c.in-Ok.ensures.heads s ∙ o.tracks s })

pub returns-in-Ok-append_reached-clause-stored : goal.returns-in-Ok-append_reached-clause-stored
returns-in-Ok-append_reached-clause-stored c =
    let rs = c.in-Ok.reached.items in
    let e = stored-joined (record { start = c.left.inside.start; end = c.left.inside.end; heads = c.left.inside.heads; segments = c.left.inside.segments.items })
    (pruned_map rs (record { start = c.right.inside.start; end = c.right.inside.end; heads = c.right.inside.heads; segments = c.right.inside.segments.items })) in
    let f = stored-pruned rs c.right.inside.segments.items in
    rw (← c.left.view_is, ← c.right.view_is, c.in-Ok-append_reached.ensures.ok) (omega (arith, e, f))
