use Rattle.jx_maps.proofs.Pruning.{Pruning}
use Rattle.jx_maps.proofs.reach.prune.Given as goal

abbrev pub invariant-loop-i : goal.invariant-loop-i
invariant-loop-i l = Pruning l.initial.reached l.reached l.initial.segments l.segments l.i
