use Rattle.std.proofs.Common.{sym, subst, ◌∙◌}
use Rattle.jx_run.specs.Text.{IsText}
use Rattle.jx_index.specs.Indexed.{IndexedValue, HasTree}
use Rattle.jx_index.proofs.Indexes.{tree_rows}
use Rattle.jx_index.proofs.indexed.Indexed.rows.Goals as goal

pub returns-clause-tree : goal.returns-clause-tree
returns-clause-tree c = λ limit tree t.
    let i = c.self.inside in
    c.as_slice.ensures.value
    ∙ tree_rows i.text.now i.span i.nodes.rows.items i.nodes.after.items i.lists.starts.items i.lists.children.items c.self.invariant.0 limit tree
    (subst (λ (v : IndexedValue). IsText v.text v.span.start v.span.end limit tree) (sym c.self.view_is) t)

pub returns-clause-has_tree : goal.returns-clause-has_tree
returns-clause-has_tree c =
    let i = c.self.invariant.0 in
    subst HasTree c.self.view_is (record { limit = i.limit; tree = i.tree; is_text = i.is_text })
