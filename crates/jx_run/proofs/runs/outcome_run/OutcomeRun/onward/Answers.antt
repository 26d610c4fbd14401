use Rattle.jx_run.proofs.RunJoin.{from_there, through_fault, through_state}
use Rattle.jx_run.proofs.runs.outcome_run.OutcomeRun.onward.Goals as goal

pub returns-in-Fault-clause-from : goal.returns-in-Fault-clause-from
returns-in-Fault-clause-from c = let w = c.transition_from-transition.ensures in from_there c.args.self.now c.args.state c.transition_from-transition.result w.transition w.there

pub returns-in-Fault-clause-goes : goal.returns-in-Fault-clause-goes
returns-in-Fault-clause-goes c =
    let w = c.transition_from-transition.ensures in
    through_fault c.args.self.now c.args.right.now c.args.state c.transition_from-transition.result c.in-Fault.field-0 w.transition w.there c.in-Fault.is

pub returns-in-State-clause-from : goal.returns-in-State-clause-from
returns-in-State-clause-from c = let w = c.transition_from-transition.ensures in from_there c.args.self.now c.args.state c.transition_from-transition.result w.transition w.there

pub returns-in-State-clause-goes : goal.returns-in-State-clause-goes
returns-in-State-clause-goes c =
    let w = c.transition_from-transition.ensures in
    let u = c.transition_from-next.ensures in
    through_state c.args.self.now c.args.right.now c.args.state c.in-State.last c.transition_from-transition.result c.transition_from-next.result w.transition w.there c.in-State.is u.transition u.there
