use Rattle.jx_edit.specs.inside.Sums.{AreSumsBut}
use Rattle.jx_edit.proofs.chunking.sums.renew.Given as goal

-- those from this one on may be wrong
abbrev pub invariant-loop-group : goal.invariant-loop-group
invariant-loop-group l = AreSumsBut l.group l.end l.chunks l.sums
