use Rattle.std.proofs.Common.{◌*◌}
use Rattle.jx_edit.specs.inside.Sums.{AreLinkedFrom}
use Rattle.jx_edit.proofs.reading.standing.are_linked_in.Given as goal

-- the chunks of the group before this one are linked
abbrev pub invariant-loop-place : goal.invariant-loop-place
invariant-loop-place l = AreLinkedFrom l.chunks (l.group * 64) l.place
