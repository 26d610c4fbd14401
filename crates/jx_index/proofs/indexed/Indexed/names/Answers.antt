use Rattle.std.proofs.Common.{ap, ◌∙◌}
use Rattle.jx_index.specs.ChildLists.{child_list}
use Rattle.jx_index.proofs.Indexes.{names_shown}
use Rattle.jx_index.proofs.indexed.Indexed.names.Goals as goal

pub returns-clause-each_once : goal.returns-clause-each_once
returns-clause-each_once c =
    let i = c.self.inside in
    (names_shown i.text.now i.span i.nodes.rows.items i.nodes.after.items i.lists.starts.items i.lists.children.items c.self.invariant.0 c.args.self.now c.self.view_is c.args.object c.requires c.deref.result.now c.deref-2.result.now c.child_list.result.now c.deref.ensures.value c.deref-2.ensures.value (c.child_list.ensures ∙ ap (child_list c.deref.result.now c.deref-2.result.now) c.number.ensures)).each_once

pub returns-clause-rising : goal.returns-clause-rising
returns-clause-rising c =
    let i = c.self.inside in
    (names_shown i.text.now i.span i.nodes.rows.items i.nodes.after.items i.lists.starts.items i.lists.children.items c.self.invariant.0 c.args.self.now c.self.view_is c.args.object c.requires c.deref.result.now c.deref-2.result.now c.child_list.result.now c.deref.ensures.value c.deref-2.ensures.value (c.child_list.ensures ∙ ap (child_list c.deref.result.now c.deref-2.result.now) c.number.ensures)).rising

pub returns-clause-equal_by_place : goal.returns-clause-equal_by_place
returns-clause-equal_by_place c =
    let i = c.self.inside in
    (names_shown i.text.now i.span i.nodes.rows.items i.nodes.after.items i.lists.starts.items i.lists.children.items c.self.invariant.0 c.args.self.now c.self.view_is c.args.object c.requires c.deref.result.now c.deref-2.result.now c.child_list.result.now c.deref.ensures.value c.deref-2.ensures.value (c.child_list.ensures ∙ ap (child_list c.deref.result.now c.deref-2.result.now) c.number.ensures)).equal_by_place
