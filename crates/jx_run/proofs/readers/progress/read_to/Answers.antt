use Rattle.jx_lex.specs.TokenStates.{in_token}
use Rattle.jx_run.proofs.readers.progress.read_to.Goals as goal

pub scan-requires-clause-turn : goal.scan-requires-clause-turn
scan-requires-clause-turn g c = g.met.S.OpenStack.is_free c.args.stack.now (in_token c.args.state)
