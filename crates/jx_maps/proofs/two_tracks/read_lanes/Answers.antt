use Rattle.std.proofs.Common.{◌≡◌, ◌∷◌, [], List, length, refl, arith}
use Rattle.std.specs.Prelude.{slice_range}
use Rattle.jx_maps.specs.Follow.{SegmentValue}
use Rattle.jx_maps.proofs.ReadingOn.{reads-one}
use Rattle.jx_maps.proofs.two_tracks.read_lanes.Goals as goal

no_segments : (ps : List SegmentValue) → length ps ≡ 0 → ps ≡ []
no_segments [] e = refl
no_segments (p ∷ ps) e = absurd (omega (arith, e))

pub returns-in_default-pop : goal.returns-in_default-pop
returns-in_default-pop c =
    let none : c.pop-2.new.self.items ≡ [] = no_segments c.pop-2.new.self.items (let n = c.in_default-pop.ensures.cases in omega (arith, n)) in
    rw (c.in-Some.ensures.items, c.in_default-pop.ensures.items, c.in_ok-push.ensures.items, none, c.into_segment.ensures, c.in_ok-read_span.ensures, c.in_ok-only.ensures)
    (reads-one c.args.from (slice_range c.args.text.now c.args.from c.args.to) c.in-Some.second)
