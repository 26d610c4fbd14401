use Rattle.std.proofs.Common.{[], ◌∷◌}
use Rattle.jx_maps.specs.inside.Bundle.{Stands}
use Rattle.jx_maps.proofs.Building.{Built}
use Rattle.jx_maps.proofs.bundle.Bundle.of_byte.Given as goal

-- the tracks from the first states are there
abbrev pub invariant-loop-state : goal.invariant-loop-state
invariant-loop-state l = record {
  built : Built l.at (l.byte ∷ []) l.live l.state-index l.bundle;
  stands : Stands (l.byte ∷ []) l.live l.bundle;
}
