use Rattle.std.proofs.Common.{arith, ◌≡◌, sym, ap, subst, ◌∙◌}
use Rattle.std.proofs.lemmas.Grind.{common_steps}
use Rattle.std.proofs.lemmas.Option.{gets}
use Rattle.jx_run.specs.Text.{IsText}
use Rattle.jx_index.specs.Indexed.{IndexedValue}
use Rattle.jx_index.specs.Rows.{rows}
use Rattle.jx_index.proofs.Indexes.{tree_rows}
use Rattle.jx_index.proofs.indexed.Indexed.row.Goals as goal

pub returns-clause-tree : goal.returns-clause-tree
returns-clause-tree c = λ limit tree t.
    let i = c.self.inside in
    let same : rows tree ≡ c.args.self.now.rows =
    sym (tree_rows i.text.now i.span i.nodes.rows.items i.nodes.after.items i.lists.starts.items i.lists.children.items c.self.invariant.0 limit tree
    (subst (λ (v : IndexedValue). IsText v.text v.span.start v.span.end limit tree) (sym c.self.view_is) t))
    ∙ ap (λ (v : IndexedValue). v.rows) c.self.view_is in
    rw same (grind (arith, common_steps, gets))
