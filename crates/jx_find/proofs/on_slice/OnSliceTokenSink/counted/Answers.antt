use Rattle.std.proofs.Common.{refl}
use Rattle.jx_index.proofs.InOrders.{none_of}
use Rattle.jx_find.proofs.SeekCounted.{counts_on, has_counted, skips}
use Rattle.jx_find.proofs.on_slice.OnSliceTokenSink.counted.Goals as goal

pub returns-in-Some-clause-seen : goal.returns-in-Some-clause-seen
returns-in-Some-clause-seen g c = λ ms es h marks ends s.
    let k = c.args.self.now in
    let counts = c.args.counts.now in
    has_counted g.B.Before.held g.B.Before.slice g.B.Before.edges marks ends k.slice.now k.base k.edges.now k.seeker _ k.begun k.name.items counts ms es (none_of k.begun c.requires.turn)
    (skips k.edges.now counts k.seeker c.in-Some.skipped c.in-Some.ensures.some c.in-Some.ensures.value) h s

pub returns-clause-seen : goal.returns-clause-seen
returns-clause-seen g c = λ ms es h marks ends s.
    let k = c.args.self.now in
    let counts = c.args.counts.now in
    has_counted g.B.Before.held g.B.Before.slice g.B.Before.edges marks ends k.slice.now k.base k.edges.now k.seeker _ k.begun k.name.items counts ms es (none_of k.begun c.requires.turn)
    (counts_on k.edges.now counts k.seeker _ c.in-Some-place_behind.place.count c.in-Some-place_behind.ensures.fits c.in-Some-place_behind.ensures.counts c.in-Some-place_behind.ensures.skipped refl refl refl c.set_count.ensures) h s
