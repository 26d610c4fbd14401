use Rattle.std.proofs.Common.{sym}
use Rattle.std.proofs.lemmas.Result.{IfErr-weaker, IfOk-weaker}
use Rattle.jx_run.specs.declared.texts.verdict.Verdict.TheVariants.{Refused}
use Rattle.jx_index.proofs.RowsAlone.{rows_behind}
use Rattle.jx_answer.proofs.bytes.texts.rows_behind_front.Goals as goal

pub returns-in_ok-rest-in-Skip-clause-accepted : goal.returns-in_ok-rest-in-Skip-clause-accepted
returns-in_ok-rest-in-Skip-clause-accepted g c =
    let text = c.args.text.now in
    let settings = c.args.settings.now in
    let count = c.in-Skip.count in
    let law = c.index_behind_a_front.ensures in
    IfOk-weaker c.rows_from.result _ _
    (λ read. IfOk-weaker read _ _ (λ rows h. rows_behind settings text count (λ i k. law.index settings text count i (sym c.in-Skip.ensures.value) k) rows.items h))
    c.rows_from.ensures.accepted

pub returns-in_ok-rest-in-Skip-clause-refused : goal.returns-in_ok-rest-in-Skip-clause-refused
returns-in_ok-rest-in-Skip-clause-refused g c =
    let text = c.args.text.now in
    let settings = c.args.settings.now in
    let count = c.in-Skip.count in
    let law = c.index_behind_a_front.ensures in
    IfOk-weaker c.rows_from.result _ _
    (λ read. IfErr-weaker read _ _ (λ refusal h. law.verdict settings text count (Refused refusal) (sym c.in-Skip.ensures.value) h))
    c.rows_from.ensures.refused
