use Rattle.std.proofs.Common.{length}
use Rattle.jx_index.specs.inside.Built.{built}
use Rattle.jx_index.specs.inside.Low.{AllLow}
use Rattle.jx_index.proofs.InOrders.{Halfway}
use Rattle.jx_index.proofs.builder.nodes_of_track.Given as goal

abbrev pub invariant-loop-mark : goal.invariant-loop-mark
invariant-loop-mark l = AllLow l.initial.marks → Halfway l.last l.marks l.initial.marks l.ends l.initial.ends (built l.builder)

abbrev pub decreases-loop-mark : goal.decreases-loop-mark
decreases-loop-mark l = length l.marks
