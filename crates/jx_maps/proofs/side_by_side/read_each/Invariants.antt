use Rattle.std.proofs.Common.{◌≡◌, ◌++◌, take, drop, map}
use Rattle.jx_maps.specs.inside.Step.{read_segment}
use Rattle.jx_maps.proofs.side_by_side.read_each.Given as goal

-- the first segments have taken the byte in
abbrev pub invariant-loop-i : goal.invariant-loop-i
invariant-loop-i l = l.segments ≡ map (read_segment l.at l.byte) (take l.i l.initial.segments) ++ drop l.i l.initial.segments
