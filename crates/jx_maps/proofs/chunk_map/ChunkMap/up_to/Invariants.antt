use Rattle.std.proofs.Common.{◌≤◌, ◌-◌, replicate, true}
use Rattle.std.specs.Prelude.{slice_range}
use Rattle.jx_maps.specs.inside.Bundle.{IsBundleOf, Stands}
use Rattle.jx_maps.proofs.chunk_map.ChunkMap.up_to.Given as goal

-- the tracks of what is read so far, from every state
abbrev pub invariant-loop-at : goal.invariant-loop-at
invariant-loop-at l = record {
  low : l.start ≤ l.at;
  high : l.at ≤ l.end;
  reads : IsBundleOf l.start (slice_range l.text l.start l.at) (replicate 32 true) l.bundle;
  stands : Stands (slice_range l.text l.start l.at) (replicate 32 true) l.bundle;
}

abbrev pub decreases-loop-at : goal.decreases-loop-at
decreases-loop-at l = l.end - l.at
