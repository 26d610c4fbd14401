use Rattle.jx_run.proofs.BothSeen.{both_end}
use Rattle.jx_run.proofs.readers.one_pass.BesideTokenSink.end.Goals as goal

pub returns-clause-seen : goal.returns-clause-seen
returns-clause-seen g c = both_end c.args.at c.args.self.now.stack _ _ c.in_ok-end.ensures.seen
