use Rattle.jx_run.specs.declared.texts.verdict.Verdict.TheVariants as verdict
use Rattle.std.proofs.lemmas.Result.{IfErr-at_err, IfOk-at_ok}
use Rattle.jx_c.proofs.texts.index.put.Goals as goal

pub returns-in-Ok : goal.returns-in-Ok
returns-in-Ok c = λ settings text told refused.
    let h = IfOk-at_ok _ c.in-Ok.is told in
    (verdict.Accepted, h.0, c.shown.ensures, (c.in-Ok.whole.value, c.replace.ensures.put, h.1))

pub returns-in-Err : goal.returns-in-Err
returns-in-Err c = λ settings text told refused. (verdict.Refused c.in-Err.refusal, IfErr-at_err _ c.in-Err.is refused, c.shown-in-Err.ensures, c.replace-in-Err.ensures.put)
