use Rattle.std.proofs.Common.{◌≡◌, ◌++◌, take, drop}
use Rattle.jx_maps.specs.Follow.{linked_segments}
use Rattle.jx_maps.proofs.segment.link_segments.Given as goal

-- the first i segments lead on already
abbrev pub invariant-loop-i : goal.invariant-loop-i
invariant-loop-i l = l.segments ≡ take l.i (linked_segments l.heads l.initial.segments) ++ drop l.i l.initial.segments
