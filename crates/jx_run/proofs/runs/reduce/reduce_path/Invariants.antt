use Rattle.std.proofs.Common.{◌≡◌, ◌<◌, ◌++◌, List, All, length, flat_map}
use Rattle.jx_lex.specs.declared.alphabet.mark.Mark.{Mark}
use Rattle.jx_maps.specs.View.{marks_at}
use Rattle.jx_run.specs.inside.Reduced.{AreReduced, IsReduced}
use Rattle.jx_run.proofs.runs.reduce.reduce_path.Given as goal

-- the marks so far, and those of the segments that are left
abbrev pub invariant-loop-number : goal.invariant-loop-number
invariant-loop-number l = record {
  slots : AreReduced l.fn.depth l.segments l.slots;
  within : All (λ n. n < length l.segments) l.path;
  so_far : (marks : List Mark) × IsReduced l.fn.depth marks l.reduced × (marks ++ flat_map (marks_at l.segments) l.path ≡ flat_map (marks_at l.segments) l.fn.path);
}

abbrev pub decreases-loop-number : goal.decreases-loop-number
decreases-loop-number l = length l.path
