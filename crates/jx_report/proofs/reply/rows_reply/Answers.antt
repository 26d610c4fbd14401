use Rattle.std.proofs.Common.{List, ◌++◌, ap, refl}
use Rattle.std.specs.Prelude.{codes}
use Rattle.std.proofs.lemmas.Result.{IfErr-at_err, IfOk-at_ok}
use Rattle.jx_run.specs.declared.texts.verdict.Verdict.TheVariants.{Accepted, Refused}
use Rattle.jx_index.specs.declared.row.Row.{Row}
use Rattle.jx_report.specs.RowWords.{row_lines}
use Rattle.jx_words.specs.Words.{line}
use Rattle.jx_report.proofs.reply.rows_reply.Goals as goal

pub returns-in-Ok : goal.returns-in-Ok
returns-in-Ok g c =
    let h = IfOk-at_ok _ c.in-Ok.is c.in_ok-rows.ensures.accepted in
    (Accepted, h.0, (h.1.tree, h.1.is_text, (ap (λ (table : List Row). line (codes "accepted") ++ row_lines 0 table) h.1.rows_are, refl)))

pub returns-in-Err : goal.returns-in-Err
returns-in-Err g c = (Refused c.in-Err.refusal, IfErr-at_err _ c.in-Err.is c.in_ok-rows.ensures.refused, (refl, refl))
