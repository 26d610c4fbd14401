use Rattle.std.proofs.Common.{◌≡◌, ◌≤◌, ◌+◌, ◌*◌, ◌^◌, drop}
use Rattle.jx_maps.specs.Map.{stored}
use Rattle.jx_maps.proofs.chunk_map.ChunkMap.stored.Given as goal

-- the marks counted so far and those of the segments that are left
abbrev pub invariant-loop-segment : goal.invariant-loop-segment
invariant-loop-segment l = record {
  same : l.stored + stored (drop l.segment-index l.segment-items) ≡ stored l.self.segments;
  fits : l.stored ≤ l.segment-index * 2 ^ 64;
}
