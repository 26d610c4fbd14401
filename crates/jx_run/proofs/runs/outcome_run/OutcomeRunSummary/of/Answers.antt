use Rattle.jx_run.proofs.RestTransitions.{whole_run}
use Rattle.jx_run.proofs.runs.outcome_run.OutcomeRunSummary.of.Goals as goal

pub returns-clause-of : goal.returns-clause-of
returns-clause-of c =
    let left = c.in_ok-beginning.beginning in
    let at = c.in_ok-beginning.ensures.end in
    whole_run c.joined.result c.args.text.now c.args.start left.end c.args.end left c.in_ok-rest.rest at.0 at.1 c.joined.ensures.rest c.in_ok-beginning.ensures.of c.in_ok-rest.ensures.rest
