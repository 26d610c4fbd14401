use Rattle.std.proofs.Common.{◌<◌, length, subst}
use Rattle.jx_index.specs.Indexed.{IndexedValue}
use Rattle.jx_index.proofs.Indexes.{has_root}
use Rattle.jx_index.proofs.indexed.Indexed.root.Goals as goal

pub returns-clause-is_row : goal.returns-clause-is_row
returns-clause-is_row c =
    let i = c.self.inside in
    subst (λ (v : IndexedValue). 0 < length v.rows) c.self.view_is (has_root i.text.now i.span i.nodes.rows.items i.nodes.after.items i.lists.starts.items i.lists.children.items c.self.invariant.0)
