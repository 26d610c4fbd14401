use Rattle.std.proofs.Common.{◌≡◌, ℕ, length}
use Rattle.std.proofs.lemmas.Result.{IfErr-at_err, IfOk-at_ok}
use Rattle.jx_run.specs.declared.texts.verdict.Refusal.{Refusal}
use Rattle.jx_run.specs.declared.texts.verdict.Verdict.TheVariants.{Accepted, Refused}
use Rattle.jx_run.specs.Text.{IsText}
use Rattle.jx_run.specs.Tree.{Tree}
use Rattle.jx_run.specs.Verdict.{Judged}
use Rattle.jx_index.specs.Rows.{rows}
use Rattle.jx_index.specs.Settled.{rest_from}
use Rattle.jx_index.specs.declared.builder.Nodes.{Nodes}
use Rattle.jx_index.proofs.RowsAlone.{rows_of_text}
use Rattle.jx_index.proofs.rows_alone.rows_from.Goals as goal

pub returns-in-Ok-clause-accepted : goal.returns-in-Ok-clause-accepted
returns-in-Ok-clause-accepted g c =
    let text = c.args.text.now in
    let start = c.args.start in
    let e = c.in_ok-read.ensures in
    rows_of_text text start c.args.depth c.in-Ok.nodes.rows.items
    (IfOk-at_ok (λ (n : Nodes). Judged start (rest_from start text) c.args.depth Accepted) c.in-Ok.is e.accepted)
    (IfOk-at_ok (λ (n : Nodes). (limit : ℕ) (tree : Tree) → IsText text start (length text) limit tree → n.rows.items ≡ rows tree) c.in-Ok.is e.rows)

pub returns-in-Err-clause-refused : goal.returns-in-Err-clause-refused
returns-in-Err-clause-refused g c =
    let text = c.args.text.now in
    let start = c.args.start in
    IfErr-at_err (λ (f : Refusal). Judged start (rest_from start text) c.args.depth (Refused f)) c.in-Err.is c.in_ok-read.ensures.refused
