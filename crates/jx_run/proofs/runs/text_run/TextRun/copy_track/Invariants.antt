use Rattle.std.proofs.Common.{◌≡◌, ◌<◌, ◌++◌, All, length, flat_map}
use Rattle.jx_maps.specs.Map.{track}
use Rattle.jx_maps.specs.View.{marks_at, ends_at}
use Rattle.jx_run.proofs.runs.text_run.TextRun.copy_track.Given as goal

-- what is copied, and what stands in the segments that are left
abbrev pub invariant-loop-number : goal.invariant-loop-number
invariant-loop-number l = record {
  within : All (λ n. n < length l.segments) l.path;
  marks : l.marks.items ++ flat_map (marks_at l.segments) l.path ≡ (track l.self.map l.fn.state).marks;
  ends : l.ends.items ++ flat_map (ends_at l.segments) l.path ≡ (track l.self.map l.fn.state).ends;
}

abbrev pub decreases-loop-number : goal.decreases-loop-number
decreases-loop-number l = length l.path
