use Rattle.std.proofs.Common.{List, ℕ, length, map, ap, subst, sym, ◌∙◌}
use Rattle.std.proofs.lemmas.Option.{IfSome_then}
use Rattle.jx_index.specs.ChildLists.{child_list}
use Rattle.jx_index.specs.declared.child_lists.WideObject.{WideObject}
use Rattle.jx_index.specs.Indexed.{IndexedValue}
use Rattle.jx_index.specs.inside.NameFronts.{front_at}
use Rattle.jx_index.specs.inside.WideObjects.{AreFrontsThere}
use Rattle.jx_index.proofs.Indexes.{names_shown}
use Rattle.jx_index.proofs.WideObjects.{fronts_there}
use Rattle.jx_index.proofs.indexed.Indexed.name_order.Goals as goal

pub returns-clause-order : goal.returns-clause-order
returns-clause-order c =
    let i = c.self.inside in
    names_shown i.text.now i.span i.nodes.rows.items i.nodes.after.items i.lists.starts.items i.lists.children.items c.self.invariant.0 c.args.self.now c.self.view_is c.args.object c.requires c.deref.result.now c.deref-2.result.now c.child_list.result.now c.deref.ensures.value c.deref-2.ensures.value (c.child_list.ensures ∙ ap (child_list c.deref.result.now c.deref-2.result.now) c.number-number.ensures)

pub returns-clause-fronts : goal.returns-clause-fronts
returns-clause-fronts c = IfSome_then c.fronts_of.result c.fronts_of.ensures (λ f h.
    let i = c.self.inside in
    let text = i.text.now in
    let rows = i.nodes.rows.items in
    let starts = i.lists.starts.items in
    let children = i.lists.children.items in
    let wide = i.lists.wide.items in
    let number = c.number-number.result in
    let there : AreFrontsThere wide number f.now = subst (λ (ws : List WideObject). AreFrontsThere ws number f.now) c.deref-3.ensures.value h in
    fronts_there text rows starts children (length rows) wide number f.now c.self.invariant.1 there
    ∙ ap (map (front_at text rows)) (sym (c.child_list.ensures
    ∙ ap (λ (s : List ℕ). child_list s c.deref-2.result.now number) c.deref.ensures.value
    ∙ ap (λ (x : List ℕ). child_list starts x number) c.deref-2.ensures.value))
    ∙ ap (λ (v : IndexedValue). map (front_at v.text v.rows) c.child_list.result.now) c.self.view_is)
