use Rattle.jx_run.proofs.Transitions.{exit_is}
use Rattle.jx_run.proofs.runs.outcome_run.OutcomeRun.exit.Goals as goal

pub returns : goal.returns
returns c = let w = c.transition_from.ensures in record { exit = exit_is c.args.self.now c.args.state c.transition_from.result w.transition w.there }
