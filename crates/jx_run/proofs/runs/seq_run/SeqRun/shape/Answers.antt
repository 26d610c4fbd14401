use Rattle.jx_run.proofs.ElementPlaces.{places_are}
use Rattle.jx_run.proofs.runs.seq_run.SeqRun.shape.Goals as goal

pub returns-in-None-clause-elements : goal.returns-in-None-clause-elements
returns-in-None-clause-elements c bytes h = places_are bytes c.args.self.now.before c.args.self.now.marked h

pub returns-in-Some-clause-elements : goal.returns-in-Some-clause-elements
returns-in-Some-clause-elements c bytes h = places_are bytes c.args.self.now.before c.args.self.now.marked h
