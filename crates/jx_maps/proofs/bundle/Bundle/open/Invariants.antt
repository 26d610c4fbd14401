use Rattle.jx_maps.proofs.Building.{Opened}
use Rattle.jx_maps.proofs.bundle.Bundle.open.Given as goal

-- the first live states have their segments
abbrev pub invariant-loop-state : goal.invariant-loop-state
invariant-loop-state l = Opened l.live l.state-index l.bundle
