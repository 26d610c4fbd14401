use Rattle.std.proofs.Common.{◌≡◌, length, arith}
use Rattle.jx_index.proofs.ChildListSteps.{has_more}
use Rattle.jx_index.proofs.WideObjects.{fronts_of_added, wide_more}
use Rattle.jx_index.proofs.child_lists.ChildLists.of.Goals as goal

pub loop-node-preserved : goal.loop-node-preserved
loop-node-preserved c =
    let text = c.args.text.now in
    let rows = c.args.rows.now in
    let after = c.args.after.now in
    let l = c.loop-node in
    let i = l.invariant in
    let added = c.in_ok-fronts.ensures.added in
    let long : c.len.result ≡ length c.add_child_list.new.children.items = omega arith in
    let h = has_more text rows after l.starts.items l.children.items added.list l.node c.len.result
    c.push-in-loop-node.new.self.items c.add_child_list.new.children.items
    i.starts i.last i.lists c.in_ok-push-2.ensures.items added.is long added.by_name added.by_place in
    let widened = c.in_ok-keep_fronts.ensures text rows added.list (fronts_of_added text rows l.children.items c.add_child_list.new.children.items added.list _ added.is c.in_ok-fronts.ensures.fronts) in
    record {
      starts = h.starts_long;
      last = h.last;
      lists = h.lists;
      wide = wide_more text rows after l.starts.items l.children.items added.list l.node c.len.result
          c.push-in-loop-node.new.self.items c.add_child_list.new.children.items l.wide.items c.keep_fronts.new.wide.items
          i.starts i.last i.lists c.in_ok-push-2.ensures.items added.is long i.wide widened;
    }
