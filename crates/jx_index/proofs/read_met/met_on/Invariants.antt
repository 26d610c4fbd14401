-- What was met at the nodes in front.
use Rattle.std.proofs.Common.{◌≡◌, map, take}
use Rattle.jx_index.specs.inside.Finding.{met_at}
use Rattle.jx_index.proofs.read_met.met_on.Given as goal

abbrev pub invariant-loop-node : goal.invariant-loop-node
invariant-loop-node l = l.along.items ≡ map (met_at l.met) (take l.node-index l.way)
