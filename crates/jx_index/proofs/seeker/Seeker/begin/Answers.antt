use Rattle.std.proofs.Common.{List, reverse, sym, ap, subst}
use Rattle.std.proofs.lemmas.Result.{IfOk-weaker}
use Rattle.jx_index.specs.declared.finder.Cursor.{Cursor}
use Rattle.jx_index.specs.inside.Finding.{Finding}
use Rattle.jx_index.specs.inside.Trie.{IsNextIn}
use Rattle.jx_index.proofs.Nexts.{next_counted}
use Rattle.jx_index.proofs.seeker.Seeker.begin.Goals as goal

pub returns-in-None-clause-next : goal.returns-in-None-clause-next
returns-in-None-clause-next c =
    let k = c.target.new.self in
    IfOk-weaker c.begin.result _ _
    (λ _ noted. λ trie ready.
    subst (λ (xs : List Cursor). IsNextIn c.args.edges.now xs k.next) (sym (ap (λ (f : Finding). f.opened) noted))
    (next_counted c.args.edges.now (reverse k.state.opened.items) k.next (c.target.ensures.next trie ready)))
    c.begin.ensures.noted
