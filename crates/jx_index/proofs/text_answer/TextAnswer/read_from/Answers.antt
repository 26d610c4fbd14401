use Rattle.std.proofs.Common.{◌≡◌, ℕ, length}
use Rattle.std.proofs.lemmas.Result.{IfErr-at_err, IfOk-at_ok}
use Rattle.jx_run.specs.declared.texts.verdict.Verdict.TheVariants.{Accepted, Refused}
use Rattle.jx_run.specs.declared.texts.verdict.Refusal.{Refusal}
use Rattle.jx_run.specs.Text.{IsText}
use Rattle.jx_run.specs.Tree.{Tree, span}
use Rattle.jx_run.specs.Verdict.{Judged}
use Rattle.jx_index.specs.Indexed.{IndexedValue}
use Rattle.jx_index.specs.Rows.{rows}
use Rattle.jx_index.specs.Settled.{rest_from}
use Rattle.jx_index.proofs.text_answer.TextAnswer.read_from.Goals as goal

pub returns-in-Ok : goal.returns-in-Ok
returns-in-Ok g c =
    let text = c.args.text.now in
    let start = c.args.start in
    let depth = c.args.depth in
    let end = length text in
    let e = c.in_ok-read.ensures in
    let index = c.in-Ok.index in
    let judged = IfOk-at_ok (λ (i : IndexedValue). Judged start (rest_from start text) depth Accepted) c.in-Ok.is e.accepted in
    record {
      answer = (
        judged,
        c.index_behind_a_front.ensures.over text start depth index judged
            (IfOk-at_ok (λ (i : IndexedValue). i.text ≡ text) c.in-Ok.is e.text)
            (IfOk-at_ok (λ (i : IndexedValue). i.span ≡ span start end) c.in-Ok.is e.span)
            (IfOk-at_ok (λ (i : IndexedValue). (limit : ℕ) (tree : Tree) → IsText text start end limit tree → i.rows ≡ rows tree) c.in-Ok.is e.rows),
      );
    }

pub returns-in-Err : goal.returns-in-Err
returns-in-Err g c =
    let text = c.args.text.now in
    let start = c.args.start in
    record {
      answer = IfErr-at_err (λ (f : Refusal). Judged start (rest_from start text) c.args.depth (Refused f)) c.in-Err.is c.in_ok-read.ensures.refused;
    }
