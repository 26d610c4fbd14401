use Rattle.std.proofs.lemmas.Result.{IfErr-weaker, IfOk-weaker}
use Rattle.jx_index.specs.ByNames.{no_text}
use Rattle.jx_index.proofs.RowsAlone.{rows_by_any}
use Rattle.jx_answer.proofs.bytes.texts.rows_of_text.Goals as goal

pub returns-in-Any-clause-accepted : goal.returns-in-Any-clause-accepted
returns-in-Any-clause-accepted g c =
    IfOk-weaker c.rows_behind_front.result _ _ (λ read. IfOk-weaker read _ _ (λ rows h. rows_by_any c.args.settings.now c.args.text.now rows.items c.in-Any.is h))
    c.rows_behind_front.ensures.accepted

pub returns-in-Any-clause-refused : goal.returns-in-Any-clause-refused
returns-in-Any-clause-refused g c = IfOk-weaker c.rows_behind_front.result _ _ (λ read. IfErr-weaker read _ _ (λ refusal h. no_text h)) c.rows_behind_front.ensures.refused

pub returns-clause-refused : goal.returns-clause-refused
returns-clause-refused g c = IfOk-weaker c.rows_behind_front-in-Accepted.result _ _ (λ read. IfErr-weaker read _ _ (λ refusal h. no_text h)) c.rows_behind_front-in-Accepted.ensures.refused
