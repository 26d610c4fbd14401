use Rattle.std.proofs.Common.{arith, ◌*◌}
use Rattle.jx_edit.proofs.Stood.{groups_linked, next_linked}
use Rattle.jx_edit.proofs.reading.standing.are_linked.Goals as goal

pub loop-group-init : goal.loop-group-init
loop-group-init c = λ k low high less. absurd (omega (arith, high))

pub loop-group-preserved : goal.loop-group-preserved
loop-group-preserved c =
    next_linked c.args.chunks.now c.loop-group.group c.args.count c.loop-group.invariant (c.is_group_linked.ensures c.if-not-is_group_linked.false)

pub returns : goal.returns
returns c = λ _. groups_linked c.args.chunks.now (c.loop-group.group * 64) c.args.count (omega (arith, c.requires.sums.covers)) c.loop-group.invariant
