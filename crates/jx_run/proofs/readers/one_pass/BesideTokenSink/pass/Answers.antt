use Rattle.jx_run.proofs.BothSeen.{both_pass}
use Rattle.jx_run.proofs.readers.one_pass.BesideTokenSink.pass.Goals as goal

pub returns-clause-read : goal.returns-clause-read
returns-clause-read g c =
    let p = c.pass_into-end.ensures in
    record { seen = both_pass _ _ c.args.self.now.stack c.pass_into-end.new.self _ _ p.depth p.reads p.marks (p.seen c.if-self.false); exit = p.exit }
