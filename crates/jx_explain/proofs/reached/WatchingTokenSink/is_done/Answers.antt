use Rattle.jx_reduce.proofs.KnownMoves.{seen_done}
use Rattle.jx_explain.proofs.reached.WatchingTokenSink.is_done.Goals as goal

pub returns : goal.returns
returns c = λ done. seen_done c.args.self.now.stack (c.is_done.ensures.0 done)
