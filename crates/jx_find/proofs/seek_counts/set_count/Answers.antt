use Rattle.std.proofs.Common.{◌≡◌, ◌-◌, ◌∷◌, sym, ap, ◌∙◌, arith}
use Rattle.jx_index.proofs.Stacks.{topped, top_get, top_set}
use Rattle.jx_index.specs.declared.finder.Cursor.{Cursor}
use Rattle.jx_find.specs.inside.SeekCounts.{with_count}
use Rattle.jx_find.proofs.SeekCounted.{none_counted}
use Rattle.jx_find.proofs.seek_counts.set_count.Goals as goal

pub returns-then-depth-eq0 : goal.returns-then-depth-eq0
returns-then-depth-eq0 c = none_counted c.args.count c.args.opened.now.items (omega arith)

pub returns : goal.returns
returns c =
    let t = topped c.args.opened.now.items (c.len-depth.result - 1) (omega arith) in
    let v = c.index_mut-top.result.now in
    let e : v ≡ t.top = c.index_mut-top.ensures.value ∙ top_get c.args.opened.now.items (c.len-depth.result - 1) t v in
    top_set c.args.opened.now.items (c.len-depth.result - 1) t _
    ∙ ap (λ (o : Cursor). record o { count = c.args.count } ∷ t.under) e
    ∙ sym (ap (with_count c.args.count) t.is)
