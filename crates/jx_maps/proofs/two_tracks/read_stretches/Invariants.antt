use Rattle.std.proofs.Common.{◌<◌, ◌≤◌, ◌-◌, ◌∷◌, []}
use Rattle.std.specs.Prelude.{slice_range}
use Rattle.jx_maps.specs.inside.Bundle.{ReadsOn}
use Rattle.jx_maps.proofs.two_tracks.read_stretches.Given as goal

-- both have read the bytes up to here
abbrev pub invariant-loop-i : goal.invariant-loop-i
invariant-loop-i l = record {
  some : 0 < l.stretch;
  few : l.stretch < 8192;
  low : l.from ≤ l.i;
  high : l.i ≤ l.to;
  read : ReadsOn l.from (slice_range l.text l.from l.i) (l.initial.first ∷ l.initial.second ∷ []) (l.first ∷ l.second ∷ []);
}

abbrev pub decreases-loop-i : goal.decreases-loop-i
decreases-loop-i l = l.to - l.i
