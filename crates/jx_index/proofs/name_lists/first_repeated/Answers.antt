use Rattle.jx_run.specs.Tree.{span}
use Rattle.jx_index.proofs.NameKeys.{none_repeated, one_apart}
use Rattle.jx_index.proofs.name_lists.first_repeated.Goals as goal

pub returns-then-names-lt2 : goal.returns-then-names-lt2
returns-then-names-lt2 c = none_repeated c.args.text.now (span 0 0) c.args.names.now (one_apart c.args.text.now c.args.names.now c.if-names-lt2.true)

pub returns-then-apart : goal.returns-then-apart
returns-then-apart c = none_repeated c.args.text.now (span 0 0) c.args.names.now (c.in_ok-apart.ensures c.if-apart.true)
