use Rattle.std.proofs.Common.{false}
use Rattle.jx_run.proofs.readers.progress.passed.Goals as goal

pub pass-requires-clause-turn : goal.pass-requires-clause-turn
pass-requires-clause-turn g c = g.met.S.OpenStack.is_free c.args.stack.now false
