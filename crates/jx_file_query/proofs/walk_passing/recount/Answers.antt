use Rattle.std.proofs.Common.{◌≡◌, ◌-◌, ◌∷◌, reverse, sym, ap, ◌∙◌, arith, Option, Some, ℕ}
use Rattle.jx_index.specs.declared.finder.Cursor.{Cursor}
use Rattle.jx_index.proofs.Stacks.{topped, top_get, top_set}
use Rattle.jx_file_query.specs.inside.Over.{recounted}
use Rattle.jx_file_query.proofs.walk_passing.recount.Goals as goal

pub returns-then-depth-gt0 : goal.returns-then-depth-gt0
returns-then-depth-gt0 c =
    let items = c.args.opened.now.items in
    let n = c.len-depth.result - 1 in
    let t = topped items n (omega arith) in
    let v = c.index_mut-top.result.now in
    let e : v ≡ t.top = c.index_mut-top.ensures.value ∙ top_get items n t v in
    top_set items n t (record v { count = c.in-Some.count })
    ∙ ap (λ (o : Cursor). record o { count = c.in-Some.count } ∷ t.under) e
    ∙ sym (ap (λ (o : Option ℕ). recounted o (reverse items)) c.in-Some.is ∙ ap (recounted (Some c.in-Some.count)) t.is)
