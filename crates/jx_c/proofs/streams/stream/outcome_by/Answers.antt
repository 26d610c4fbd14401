use Rattle.std.proofs.Common.{length, ap, subst, sym, ◌∙◌}
use Rattle.std.proofs.lemmas.Result.{IfOk-weaker}
use Rattle.jx_run.specs.Settings.{JudgedBy}
use Rattle.jx_c.specs.Values.{HasSought, IsOutcomeBy, LeadsTo}
use Rattle.jx_c.proofs.Outcomes.{root_leads}
use Rattle.jx_c.proofs.streams.stream.outcome_by.Goals as goal

pub returns-in-Some : goal.returns-in-Some
returns-in-Some c =
    let settings = c.args.each.now.reader.settings in
    IfOk-weaker c.outcome_of_sought.result _ _
    (λ told found. λ pointer text given taken looked judged.
    subst (λ v. IsOutcomeBy settings pointer text v told) (sym c.in-Accepted.is)
    (subst (λ n. LeadsTo settings pointer text n told) (c.token_count.ensures ∙ ap length taken.path_is)
    (found settings pointer text (subst (λ f. HasSought settings pointer text f) c.in-Some.is looked))))
    c.outcome_of_sought.ensures

pub returns-in-None : goal.returns-in-None
returns-in-None c =
    let settings = c.args.each.now.reader.settings in
    λ pointer text given taken looked judged.
    subst (λ v. IsOutcomeBy settings pointer text v c.outcome_of_root.result) (sym c.in-Accepted.is)
    (root_leads settings pointer text c.outcome_of_root.result c.is_container.result (subst (λ f. HasSought settings pointer text f) c.in-None.is looked)
    (subst (λ v. JudgedBy settings 0 text v) c.in-Accepted.is judged) (λ tree d. c.is_container.ensures pointer text given tree taken d) c.outcome_of_root.ensures)
