use Rattle.std.proofs.Common.{ap, ◌∙◌}
use Rattle.jx_index.specs.ChildLists.{child_list}
use Rattle.jx_index.proofs.Indexes.{elements_shown}
use Rattle.jx_index.proofs.indexed.Indexed.elements.Goals as goal

pub returns : goal.returns
returns c =
    let i = c.self.inside in
    elements_shown i.text.now i.span i.nodes.rows.items i.nodes.after.items i.lists.starts.items i.lists.children.items c.self.invariant.0 c.args.self.now c.self.view_is c.args.array c.requires c.deref.result.now c.deref-2.result.now c.child_list.result.now c.deref.ensures.value c.deref-2.ensures.value (c.child_list.ensures ∙ ap (child_list c.deref.result.now c.deref-2.result.now) c.number.ensures)
