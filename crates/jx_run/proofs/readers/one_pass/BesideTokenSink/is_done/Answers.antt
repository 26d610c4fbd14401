use Rattle.jx_run.proofs.BothSeen.{both_done}
use Rattle.jx_run.proofs.readers.one_pass.BesideTokenSink.is_done.Goals as goal

pub returns : goal.returns
returns g c = λ done. both_done c.args.self.now.stack (g.K.TokenSink.has_seen c.args.self.now.other.sink) (c.is_done.ensures.0 done)
