use Rattle.std.proofs.Common.{arith, ◌+◌, ◌*◌}
use Rattle.jx_edit.proofs.Groups.{no_sum}
use Rattle.jx_edit.proofs.Links.{walked_over}
use Rattle.jx_edit.proofs.reading.walk.pass_group.Goals as goal

pub returns-then-sums-group-clause-walked : goal.returns-then-sums-group-clause-walked
returns-then-sums-group-clause-walked c =
    λ none. walked_over c.args.depth c.args.start c.args.chunks.now (c.args.group * 64) ((c.args.group + 1) * 64) (omega arith) c.requires.walked
    ((c.requires.sums.each c.args.group no_sum c.requires.group).linked c.if-sums-group.true)
