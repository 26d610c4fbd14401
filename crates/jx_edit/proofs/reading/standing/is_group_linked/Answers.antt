use Rattle.jx_edit.proofs.Groups.{no_sum}
use Rattle.jx_edit.proofs.Stood.{linked_by_sum}
use Rattle.jx_edit.proofs.reading.standing.is_group_linked.Goals as goal

pub returns-then-sums-group : goal.returns-then-sums-group
returns-then-sums-group c = λ _.
    linked_by_sum c.args.chunks.now c.args.group c.args.count ((c.requires.sums.each c.args.group no_sum c.requires.group).linked c.if-sums-group.true)
