use Rattle.std.proofs.Common.{◌*◌}
use Rattle.jx_edit.specs.inside.Sums.{AreLinkedBelow}
use Rattle.jx_edit.proofs.reading.standing.are_linked.Given as goal

-- the chunks of the groups before this one are linked
abbrev pub invariant-loop-group : goal.invariant-loop-group
invariant-loop-group l = AreLinkedBelow l.chunks l.count 0 (l.group * 64)
