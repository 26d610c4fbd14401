use Rattle.std.proofs.Common.{subst}
use Rattle.std.specs.Prelude.{IfErr, IfOk}
use Rattle.jx_run.specs.declared.texts.settings.Settings.{Settings}
use Rattle.jx_run.specs.declared.texts.verdict.Verdict.TheVariants as verdict
use Rattle.jx_index.specs.ByNames.{IsVerdictBy}
use Rattle.jx_index.specs.Found.{AreFoundIn}
use Rattle.jx_c.proofs.AnyNames.{each_result}
use Rattle.jx_c.proofs.texts.by_names.find_each_by_names.Goals as goal

pub returns-in-None : goal.returns-in-None
returns-in-None c =
    let text = c.args.text.now in
    let pointers = c.args.pointers.now in
    let read = c.find_each_by.result in
    each_result c.args.settings.now text (c.in_ok-refusal.ensures.accepted c.in-None.is) pointers read
    (subst (λ (s : Settings). IfOk read (λ r. IfOk r (λ _. IsVerdictBy s text verdict.Accepted))) c.with_any_names.ensures c.find_each_by.ensures.accepted)
    (subst (λ (s : Settings). IfOk read (λ r. IfOk r (λ found. AreFoundIn s text pointers found.items))) c.with_any_names.ensures c.find_each_by.ensures.found)
    (subst (λ (s : Settings). IfOk read (λ r. IfErr r (λ refusal. IsVerdictBy s text (verdict.Refused refusal)))) c.with_any_names.ensures c.find_each_by.ensures.refused)
