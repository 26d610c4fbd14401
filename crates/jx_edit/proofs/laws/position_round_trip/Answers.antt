use Rattle.jx_edit.proofs.Counting.{last_is, leads_back}
use Rattle.jx_edit.proofs.laws.position_round_trip.Goals as goal

pub returns-clause-back : goal.returns-clause-back
returns-clause-back c = leads_back

pub returns-clause-last : goal.returns-clause-last
returns-clause-last c = last_is
