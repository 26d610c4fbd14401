use Rattle.std.proofs.Common.{take}
use Rattle.jx_maps.specs.inside.Bundle.{StandIn}
use Rattle.jx_maps.proofs.side_by_side.live_of.Given as goal

-- the states of the first segments
abbrev pub invariant-loop-i : goal.invariant-loop-i
invariant-loop-i l = StandIn l.live (take l.i l.segments)
