use Rattle.jx_sentence.proofs.Behind.{watched_done}
use Rattle.jx_sentence.proofs.standing.WatchingTokenSink.is_done.Goals as goal

pub returns : goal.returns
returns c = λ done. watched_done c.args.self.now.stack c.args.self.now.token (c.is_done.ensures.0 done)
