use Rattle.std.proofs.Common.{◌≡◌, ◌-◌, suc, ◌∷◌, sym, ap, ◌∙◌, arith}
use Rattle.jx_index.proofs.Stacks.{topped, top_get, top_set}
use Rattle.jx_around.specs.declared.collector.Level.{Level}
use Rattle.jx_around.specs.inside.Collecting.{more_in}
use Rattle.jx_around.proofs.collector.count_child.Goals as goal

pub returns-in_ok-count : goal.returns-in_ok-count
returns-in_ok-count c =
    let t = topped c.args.opened.now.items (c.len-depth.result - 1) (omega arith) in
    let v = c.index_mut-top.result.now in
    let e : v ≡ t.top = c.index_mut-top.ensures.value ∙ top_get c.args.opened.now.items (c.len-depth.result - 1) t v in
    let n : v.count ≡ t.top.count = ap (λ (o : Level). o.count) e in
    let more : c.in_ok-count.count ≡ suc t.top.count = omega (arith, c.in_ok-count.ensures, n) in
    top_set c.args.opened.now.items (c.len-depth.result - 1) t _
    ∙ ap (λ (o : Level). record o { count = c.in_ok-count.count } ∷ t.under) e
    ∙ ap (λ n. record t.top { count = n } ∷ t.under) more
    ∙ sym (ap more_in t.is)
