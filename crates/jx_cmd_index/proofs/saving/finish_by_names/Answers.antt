use Rattle.std.proofs.Common.{◌≡◌, subst}
use Rattle.std.proofs.lemmas.Result.{IfErr-at_err, IfOk-at_ok}
use Rattle.jx_run.specs.declared.texts.verdict.Verdict.{Verdict}
use Rattle.jx_run.specs.declared.texts.verdict.Verdict.TheVariants.{Accepted, Refused}
use Rattle.jx_index.specs.ByNames.{IsVerdictBy}
use Rattle.jx_cmd_index.specs.inside.Saving.{any_names}
use Rattle.jx_cmd_index.proofs.AnyNames.{beside_any, judged_without, tables_any}
use Rattle.jx_cmd_index.proofs.saving.finish_by_names.Goals as goal

pub returns-in-Ok : goal.returns-in-Ok
returns-in-Ok c = λ has_names settings chunk bytes h.
    let saved = c.in-Ok.saved in
    let any = any_names settings in
    let e = c.in_ok-read-in-Accepted.ensures in
    let was = IfOk-at_ok _ c.in-Ok.is e.index has_names any chunk bytes h.fed in
    let index = c.with_unique_names.ensures settings chunk bytes h.unique was in
    record {
      accepted = subst (λ (v : Verdict). IsVerdictBy settings bytes v) c.in-Accepted.is h.is_verdict;
      index = index;
      names = tables_any has_names settings chunk bytes saved.names (IfOk-at_ok _ c.in-Ok.is e.names has_names any chunk bytes h.fed);
      savable = beside_any any settings chunk bytes saved.index c.with_unique_names.result saved.names was index (IfOk-at_ok _ c.in-Ok.is e.savable has_names any chunk bytes h.fed);
    }

pub returns-in-Err : goal.returns-in-Err
returns-in-Err c = λ has_names settings chunk bytes h.
    let refused = IfErr-at_err _ c.in-Err.is c.in_ok-read-in-Accepted.ensures.refused has_names (any_names settings) chunk bytes h.fed in
    let accepted : IsVerdictBy settings bytes Accepted = subst (λ (v : Verdict). IsVerdictBy settings bytes v) c.in-Accepted.is h.is_verdict in
    let same : Accepted ≡ Refused c.in-Err.refusal =
    c.unique_verdict_by_settings.ensures.one_verdict (any_names settings) 0 bytes Accepted (Refused c.in-Err.refusal) (judged_without settings bytes accepted) refused in
    absurd (cc)
