use Rattle.std.proofs.lemmas.Result.{IfOk-weaker}
use Rattle.jx_explain.proofs.FirstPass.{exit_fits}
use Rattle.jx_explain.proofs.first_pass.exit_of_input.Goals as goal

pub returns-clause-ok : goal.returns-clause-ok
returns-clause-ok g c = IfOk-weaker c.report.result _ _
    (λ exit r. record { text = r.text; read = r.read; few = r.few; verdict = r.answer.0; is_verdict = r.answer.1; exit_is = exit_fits r.answer.0 r.output exit r.answer.2 })
    c.report.ensures.ok

pub returns-clause-silent : goal.returns-clause-silent
returns-clause-silent g c = IfOk-weaker c.report.result _ _ (λ exit r. r.wrote) c.report.ensures.ok
