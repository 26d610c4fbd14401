use Rattle.jx_names.proofs.Lists.{none_repeated}
use Rattle.jx_names.proofs.name_lists.first_repeated_of_some.Goals as goal

pub returns-then-branch : goal.returns-then-branch
returns-then-branch c = none_repeated c.args.bytes.now c.args.names.now (c.in_ok-are_apart.ensures c.if-branch.true)
