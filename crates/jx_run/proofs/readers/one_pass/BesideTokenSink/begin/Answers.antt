use Rattle.jx_run.proofs.BothSeen.{both_begin}
use Rattle.jx_run.proofs.readers.one_pass.BesideTokenSink.begin.Goals as goal

pub returns-clause-seen : goal.returns-clause-seen
returns-clause-seen g c = both_begin c.args.self.now.stack.depth c.args.mark c.args.self.now.stack c.push.new.self _ _ c.push.ensures.depth c.in_ok-push.ensures.reads c.in_ok-push.ensures.marks c.in_ok-begin.ensures.seen
