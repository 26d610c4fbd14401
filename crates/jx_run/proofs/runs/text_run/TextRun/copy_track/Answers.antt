use Rattle.std.proofs.Common.{◌++◌, length, flat_map, ap, ◌∙◌}
use Rattle.jx_maps.specs.View.{marks_at, ends_at}
use Rattle.jx_run.proofs.Reducing.{first_within, rest_within, marks_same, ends_same, next_flat}
use Rattle.jx_run.proofs.runs.text_run.TextRun.copy_track.Goals as goal

pub loop-number-preserved : goal.loop-number-preserved
loop-number-preserved c =
    let l = c.loop-number in
    let segments = c.segments-segments.result.now in
    let more = c.next.new.self in
    let part = c.index-segments-number.result in
    let low = first_within l.path more c.in-Some.number (length segments) c.in-Some.ensures.steps l.invariant.within in
    record {
      within = rest_within l.path more c.in-Some.number (length segments) c.in-Some.ensures.steps l.invariant.within;
      marks =
          ap (λ ms. ms ++ flat_map (marks_at segments) more) (c.in_ok-extend_from_slice.ensures.items ∙ ap (λ ms. l.marks.items ++ ms) c.marks.ensures)
          ∙ next_flat (marks_at segments) l.marks.items l.path more c.in-Some.number part.marks _ c.in-Some.ensures.steps (marks_same segments c.in-Some.number part low c.index-segments-number.is) l.invariant.marks;
      ends =
          ap (λ es. es ++ flat_map (ends_at segments) more) (c.in_ok-extend_from_slice-2.ensures.items ∙ ap (λ es. l.ends.items ++ es) c.ends.ensures)
          ∙ next_flat (ends_at segments) l.ends.items l.path more c.in-Some.number part.ends _ c.in-Some.ensures.steps (ends_same segments c.in-Some.number part low c.index-segments-number.is) l.invariant.ends;
    }
