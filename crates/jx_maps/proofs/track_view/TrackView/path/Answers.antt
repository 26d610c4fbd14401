use Rattle.std.proofs.Common.{◌≡◌, ◌+◌, ◌<◌, length, All, subst, refl, arith}
use Rattle.jx_maps.specs.View.{path_from}
use Rattle.jx_maps.proofs.Walking.{path-within, path-marks, path-ends}
use Rattle.jx_maps.proofs.track_view.TrackView.path.Goals as goal

pub returns-clause-within : goal.returns-clause-within
returns-clause-within c =
    let v = c.self.inside in
    let e : 0 + length v.segments.now ≡ length v.segments.now = omega arith in
    rw (← c.self.view_is) (subst (λ m. All (λ i. i < m) (path_from 0 v.segments.now v.first)) e (path-within 0 v.segments.now v.first c.self.invariant.0 c.self.invariant.1))

pub returns-clause-marks : goal.returns-clause-marks
returns-clause-marks c = rw (← c.self.view_is) (path-marks c.self.inside.segments.now 0 c.self.inside.segments.now c.self.inside.first refl c.self.invariant.0 c.self.invariant.1)

pub returns-clause-ends : goal.returns-clause-ends
returns-clause-ends c = rw (← c.self.view_is) (path-ends c.self.inside.segments.now 0 c.self.inside.segments.now c.self.inside.first refl c.self.invariant.0 c.self.invariant.1)
