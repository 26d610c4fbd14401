use Rattle.std.proofs.Common.{List, sym, subst}
use Rattle.std.proofs.lemmas.Result.{IfErr-at_err, IfOk-at_ok}
use Rattle.jx_run.specs.Settings.{JudgedBy}
use Rattle.jx_run.specs.declared.texts.verdict.Refusal.{Refusal}
use Rattle.jx_run.specs.declared.texts.verdict.Verdict.TheVariants.{Refused}
use Rattle.jx_index.specs.ByNames as names
use Rattle.jx_index.specs.declared.row.Row.{Row}
use Rattle.jx_around.specs.Around.{AreAround}
use Rattle.jx_serve.specs.Values.{no_text}
use Rattle.jx_serve.proofs.under_cursor.value_of_any.Goals as goal

pub returns-in-Err : goal.returns-in-Err
returns-in-Err c =
    no_text (names.no_text (IfErr-at_err (λ (f : Refusal). JudgedBy c.args.settings.now 0 c.args.text.now (Refused f)) c.in-Err.is c.in_ok-values_around.ensures.refused))

pub value_among-requires : goal.value_among-requires
value_among-requires c =
    let settings = c.args.settings.now in
    let text = c.args.text.now in
    subst (λ (table : List Row). AreAround settings text c.args.offset table) (sym c.deref.ensures.value)
    (IfOk-at_ok (λ values. AreAround settings text c.args.offset values.items) c.in-Ok.is c.in_ok-values_around.ensures.accepted)
