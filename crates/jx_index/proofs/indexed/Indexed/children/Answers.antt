use Rattle.std.proofs.Common.{sym, ap, subst, ◌∙◌}
use Rattle.jx_index.specs.Indexed.{IndexedValue}
use Rattle.jx_index.specs.Nodes.{child_numbers}
use Rattle.jx_index.specs.Walk.{IsForward, IsBounded, walk_children}
use Rattle.jx_index.proofs.Indexes.{goes_forward, stays_bounded, walk_is}
use Rattle.jx_index.proofs.indexed.Indexed.children.Goals as goal

pub children_in-requires-clause-forward : goal.children_in-requires-clause-forward
children_in-requires-clause-forward c =
    let i = c.self.inside in
    subst IsForward (sym c.deref.ensures.value) (goes_forward i.text.now i.span i.nodes.rows.items i.nodes.after.items i.lists.starts.items i.lists.children.items c.self.invariant.0)

pub children_in-requires-clause-bounded : goal.children_in-requires-clause-bounded
children_in-requires-clause-bounded c =
    let i = c.self.inside in
    subst IsBounded (sym c.deref.ensures.value) (stays_bounded i.text.now i.span i.nodes.rows.items i.nodes.after.items i.lists.starts.items i.lists.children.items c.self.invariant.0)

pub returns : goal.returns
returns c =
    let i = c.self.inside in
    c.children_in.ensures
    ∙ ap (λ a. walk_children a c.args.node) c.deref.ensures.value
    ∙ walk_is i.text.now i.span i.nodes.rows.items i.nodes.after.items i.lists.starts.items i.lists.children.items c.self.invariant.0 c.args.node
    ∙ ap (λ (v : IndexedValue). child_numbers v.rows c.args.node) c.self.view_is
