use Rattle.std.proofs.Common.{flat_map, ap, sym, ◌∙◌}
use Rattle.jx_maps.specs.View.{marks_at, view_track}
use Rattle.jx_run.specs.inside.Reduced.{path_at}
use Rattle.jx_run.proofs.Reducing.{path-bare, path-first, path-none}
use Rattle.jx_run.proofs.runs.reduce.first_of.Goals as goal

pub returns-in-Some-clause-marks : goal.returns-in-Some-clause-marks
returns-in-Some-clause-marks c =
    let v = c.args.track.now in
    let path = c.path-path.ensures in
    ap (flat_map (marks_at v.segments)) (path-first v.segments v.first c.in-Some.number c.next.new.self (sym path.all ∙ c.in-Some.ensures.steps) ∙ sym path.all) ∙ path.marks

pub returns-in-None-clause-marks : goal.returns-in-None-clause-marks
returns-in-None-clause-marks c =
    let v = c.args.track.now in
    let path = c.path-path.ensures in
    ap (λ n. flat_map (marks_at v.segments) (path_at v.segments n)) c.requires
    ∙ ap (flat_map (marks_at v.segments)) (path-none v.segments v.first (sym path.all ∙ c.in-None.ensures.steps.0) ∙ sym path.all) ∙ path.marks

pub returns-then-is_bare-clause-marks : goal.returns-then-is_bare-clause-marks
returns-then-is_bare-clause-marks c =
    let v = c.args.track.now in
    path-bare v.segments c.args.count (view_track v).marks c.requires (c.is_bare.ensures c.if-is_bare.true)
