use Rattle.std.proofs.Common.{map, ap, ◌∙◌}
use Rattle.jx_index.specs.inside.NameFronts.{front_in, node_of, with_front}
use Rattle.jx_index.proofs.NameFronts.{in_name_order, fronts_in_order}
use Rattle.jx_index.proofs.member_order.sort_many.Goals as goal

pub returns : goal.returns
returns c =
    let text = c.args.text.now in
    let rows = c.args.rows.now in
    let listed = c.in_ok-list.ensures ∙ ap (map (with_front text rows)) c.deref.ensures.value in
    let named = c.in_ok-list_members.ensures ∙ ap (map node_of) c.deref-2.ensures.value in
    record {
      order = in_name_order text rows _ _ _ _ listed c.in_ok-sort_fronted.ensures named;
      fronts = fronts_in_order text rows _ _ _ _ _ listed c.in_ok-sort_fronted.ensures named (c.in_ok-fronts.ensures ∙ ap (map front_in) c.deref-3.ensures.value);
    }
