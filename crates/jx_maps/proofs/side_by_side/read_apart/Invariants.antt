use Rattle.std.proofs.Common.{◌≤◌, ◌-◌}
use Rattle.std.specs.Prelude.{slice_range}
use Rattle.jx_maps.specs.inside.Bundle.{ReadsOn}
use Rattle.jx_maps.proofs.side_by_side.read_apart.Given as goal

-- all have read the bytes up to here
abbrev pub invariant-loop-i : goal.invariant-loop-i
invariant-loop-i l = record {
  low : l.from ≤ l.i;
  high : l.i ≤ l.to;
  read : ReadsOn l.from (slice_range l.text l.from l.i) l.initial.segments l.segments;
}

abbrev pub decreases-loop-i : goal.decreases-loop-i
decreases-loop-i l = l.to - l.i
