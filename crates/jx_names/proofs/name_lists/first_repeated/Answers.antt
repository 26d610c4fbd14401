use Rattle.jx_names.proofs.Lists.{none_repeated, one_apart}
use Rattle.jx_names.proofs.name_lists.first_repeated.Goals as goal

pub returns-then-names-lt2 : goal.returns-then-names-lt2
returns-then-names-lt2 c = none_repeated c.args.bytes.now c.args.names.now (one_apart c.args.names.now c.if-names-lt2.true)
