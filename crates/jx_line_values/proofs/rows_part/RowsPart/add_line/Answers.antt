use Rattle.std.proofs.Common.{◌++◌, List, ℕ, take, subst, sym}
use Rattle.std.proofs.lemmas.Result.{on_ok_weaker}
use Rattle.jx_line_values.specs.inside.RowsPart.{IsPlainLine, IsRowsPart}
use Rattle.jx_line_values.proofs.rows_part.RowsPart.add_line.Goals as goal

pub returns-then-branch : goal.returns-then-branch
returns-then-branch c =
    let task = c.args.task.now in
    let bare : List ℕ = take c.args.len c.args.slice.now in
    on_ok_weaker c.add_row.result
    (λ adds bytes h.
    subst (λ (l : List ℕ). IsRowsPart task l c.add_row.new.self) (c.requires.ended bytes)
    (adds task bytes bare c.requires.line (subst (λ (l : List ℕ). IsPlainLine task bare l) (sym c.deref.ensures.value) (c.in_ok-is_plain.ensures c.if-branch.true)) h))
    c.add_row.ensures

pub returns-else-branch : goal.returns-else-branch
returns-else-branch c = on_ok_weaker c.add_turn.result (λ adds bytes h. adds c.args.task.now bytes h) c.add_turn.ensures
