use Rattle.jx_run.proofs.VerdictLaws.{one_verdict_by}
use Rattle.jx_run.proofs.laws.unique_verdict_by_settings.Goals as goal

pub returns : goal.returns
returns c = record { one_verdict = one_verdict_by }
