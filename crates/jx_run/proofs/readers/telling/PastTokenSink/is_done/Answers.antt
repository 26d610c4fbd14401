use Rattle.jx_run.proofs.Tellings.{past_over}
use Rattle.jx_run.proofs.readers.telling.PastTokenSink.is_done.Goals as goal

pub returns : goal.returns
returns g c = λ done marks more ends others h.
    past_over g.E.Earlier.seen g.E.Earlier.stack (g.K.TokenSink.has_seen c.args.self.now.other.sink) marks ends c.args.self.now.stack h (c.is_done.ensures.0 done) more others
