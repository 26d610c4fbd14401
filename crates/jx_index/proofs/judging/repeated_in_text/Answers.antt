use Rattle.std.proofs.Common.{ℕ, Option}
use Rattle.std.proofs.lemmas.Result.{IfOk-at_ok}
use Rattle.jx_run.specs.Text.{IsText}
use Rattle.jx_run.specs.Tree.{Tree}
use Rattle.jx_index.specs.Repeats.{IsLeast, IsRepeat}
use Rattle.jx_index.specs.Rows.{rows}
use Rattle.jx_index.proofs.judging.repeated_in_text.Goals as goal

pub returns : goal.returns
returns c =
    let text = c.args.input.now in
    let span = c.args.span in
    IfOk-at_ok (λ (name : Option ℕ). (limit : ℕ) (tree : Tree) → IsText text span.start span.end limit tree → IsLeast (IsRepeat text (rows tree)) name) c.in-Ok.is c.in_ok-read.ensures.name c.args.depth
