use Rattle.std.proofs.Common.{◌≡◌, ℕ, ◌∙◌}
use Rattle.std.proofs.lemmas.Result.{IfOk-at_ok}
use Rattle.jx_run.specs.Text.{IsText}
use Rattle.jx_run.specs.Tree.{Tree}
use Rattle.jx_index.specs.Rows.{rows}
use Rattle.jx_index.specs.declared.builder.Nodes.{Nodes}
use Rattle.jx_index.proofs.indexed.Indexed.read.Goals as goal

pub returns-in_ok-index-in-Ok-clause-rows : goal.returns-in_ok-index-in-Ok-clause-rows
returns-in_ok-index-in-Ok-clause-rows g c = λ limit tree t.
    c.in_ok-index-in-Ok.ensures.rows
    ∙ IfOk-at_ok (λ (nodes : Nodes). (limit : ℕ) (tree : Tree) → IsText c.args.text.now c.args.span.start c.args.span.end limit tree → nodes.rows.items ≡ rows tree) c.in-Ok.is c.in_ok-read.ensures.rows limit tree t
