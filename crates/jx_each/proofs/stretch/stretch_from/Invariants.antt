-- The bytes so far are a stretch.
use Rattle.std.proofs.Common.{length, ◌+◌, ◌-◌, ◌≤◌}
use Rattle.std.specs.Prelude.{slice_range}
use Rattle.jx_each.specs.inside.Stretches.{IsStretch}
use Rattle.jx_each.proofs.stretch.stretch_from.Given as goal

abbrev pub invariant-loop-end : goal.invariant-loop-end
invariant-loop-end l = record {
  low : l.from ≤ l.end;
  within : l.end ≤ length l.bytes;
  high : l.height ≤ l.initial.height + (l.end - l.from);
  stretch : IsStretch l.initial.place l.initial.height (slice_range l.bytes l.from l.end) l.place l.height;
}

abbrev pub decreases-loop-end : goal.decreases-loop-end
decreases-loop-end l = length l.bytes - l.end
