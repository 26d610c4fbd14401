use Rattle.std.proofs.Common.{◌≡◌, flat_map, ap, subst, ◌∙◌}
use Rattle.jx_lex.specs.Lex.{Track}
use Rattle.jx_maps.specs.View.{marks_at, view_track}
use Rattle.jx_run.specs.inside.Reduced.{path_at}
use Rattle.jx_run.proofs.runs.reduce.Paths.number_of.Goals as goal

pub add-requires-clause-path : goal.add-requires-clause-path
add-requires-clause-path c =
    subst (λ ps. flat_map (marks_at ps) (path_at ps c.first_of-first.result) ≡ (view_track c.entry.result).marks) c.entry.ensures.segments c.first_of-first.ensures.marks
    ∙ ap (λ (t : Track). t.marks) c.entry.ensures.track
