use Rattle.jx_ndjson.proofs.LineLaws.{one_answers}
use Rattle.jx_ndjson.proofs.laws.unique_answer.Goals as goal

pub returns : goal.returns
returns c = record { one = one_answers c.unique_verdict_by_settings.ensures.one_verdict }
