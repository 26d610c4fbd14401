use Rattle.std.proofs.Common.{sym, subst}
use Rattle.std.proofs.lemmas.Result.{IfOk-weaker}
use Rattle.jx_words.specs.Verdicts.{ByVerdict, SaysAccepted}
use Rattle.jx_words.specs.inside.Lines.{verdict_exit, verdict_line}
use Rattle.jx_words.proofs.Verdicts.{says_verdict}
use Rattle.jx_words.proofs.verdict_words.write_verdict.Goals as goal

pub returns-clause-ok : goal.returns-clause-ok
returns-clause-ok g c =
    let verdict = c.args.verdict in
    IfOk-weaker c.show_verdict.result _ _ (λ exit h. (verdict_line verdict, (subst (ByVerdict SaysAccepted verdict (verdict_line verdict)) (sym h.0) (says_verdict verdict), h.1))) c.show_verdict.ensures.ok

pub returns-clause-beginning : goal.returns-clause-beginning
returns-clause-beginning g c = λ is.
    let verdict = c.args.verdict in
    (verdict_exit verdict, (verdict_line verdict, (says_verdict verdict, c.show_verdict.ensures.beginning is)))
