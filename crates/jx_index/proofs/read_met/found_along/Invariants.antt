-- Each node in front was met once.
use Rattle.std.proofs.Common.{map}
use Rattle.jx_index.specs.inside.Finding.{met_at}
use Rattle.jx_index.proofs.Along.{AreOnce}
use Rattle.jx_index.proofs.read_met.found_along.Given as goal

abbrev pub invariant-loop-node : goal.invariant-loop-node
invariant-loop-node l = AreOnce (map (met_at l.met) l.way) l.node-index l.last
