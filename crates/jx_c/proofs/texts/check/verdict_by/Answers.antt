use Rattle.std.proofs.lemmas.Result.{IfOk-weaker}
use Rattle.jx_run.specs.declared.texts.verdict.Verdict.{Verdict}
use Rattle.jx_run.specs.Settings.{JudgedBy}
use Rattle.jx_index.specs.ByNames.{IsVerdictBy}
use Rattle.jx_c.proofs.texts.check.verdict_by.Goals as goal

pub returns-in-Any : goal.returns-in-Any
returns-in-Any c =
    let text = c.args.text.now in
    let settings = c.args.settings.now in
    IfOk-weaker c.verdict_with_any_names.result (λ (v : Verdict). JudgedBy settings 0 text v) (λ (v : Verdict). IsVerdictBy settings text v)
    (λ v h. (c.repeated_name_by_rows.ensures.any settings text v c.in-Any.is).1 h) c.verdict_with_any_names.ensures
