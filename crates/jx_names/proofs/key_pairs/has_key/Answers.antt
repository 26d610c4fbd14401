use Rattle.jx_names.proofs.Apart.{no_key_yet}
use Rattle.jx_names.proofs.key_pairs.has_key.Goals as goal

pub loop-at-preserved : goal.loop-at-preserved
loop-at-preserved c = no_key_yet c.args.names.now c.args.key c.loop-at.at c.loop-at.invariant c.loop-at-test.true c.if-names-at.false
