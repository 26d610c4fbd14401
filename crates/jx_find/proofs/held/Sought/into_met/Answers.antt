use Rattle.jx_find.proofs.held.Sought.into_met.Goals as goal

pub returns : goal.returns
returns c = c.in_ok-ended.ensures
