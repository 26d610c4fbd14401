use Rattle.std.proofs.Common.{List, reverse, sym, ap, subst, ◌∙◌}
use Rattle.jx_index.specs.declared.finder.Cursor.{Cursor}
use Rattle.jx_index.specs.inside.Finding.{Finding}
use Rattle.jx_index.specs.inside.Found.{finding}
use Rattle.jx_index.specs.inside.Trie.{IsNextIn}
use Rattle.jx_index.proofs.Nexts.{leaf_opened, next_counted}
use Rattle.jx_index.proofs.seeker.Seeker.leaf.Goals as goal

pub returns-clause-next : goal.returns-clause-next
returns-clause-next c = λ trie ready.
    let k = c.target-target.new.self in
    subst (λ (xs : List Cursor). IsNextIn c.args.edges.now xs k.next) (sym (ap (λ (f : Finding). f.opened) c.in_ok-leaf.ensures.noted ∙ leaf_opened c.target-target.result c.args.kind c.args.span (finding k.state)))
    (next_counted c.args.edges.now (reverse k.state.opened.items) k.next (c.target-target.ensures.next trie ready))
