use Rattle.jx_run.proofs.VerdictLaws.{one_verdict}
use Rattle.jx_run.proofs.laws.unique_verdict.Goals as goal

pub returns : goal.returns
returns c = record { one_verdict = λ at limit bytes. one_verdict at bytes limit }
