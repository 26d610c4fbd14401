use Rattle.jx_reduce.proofs.KnownMoves.{seen_done}
use Rattle.jx_reduce.proofs.stack.known_sink.KnownStackTokenSink.is_done.Goals as goal

pub returns : goal.returns
returns c = λ done. seen_done c.args.self.now (c.is_done.ensures.0 done)
