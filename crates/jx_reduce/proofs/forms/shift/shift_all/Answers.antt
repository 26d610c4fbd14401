use Rattle.std.proofs.Common.{◌<◌, length, set, ap, ◌∙◌, arith}
use Rattle.std.proofs.lemmas.List.{length-set}
use Rattle.std.proofs.lemmas.List.Edits.{map_over_more}
use Rattle.jx_reduce.proofs.forms.shift.shift_all.Goals as goal

pub loop-at-preserved : goal.loop-at-preserved
loop-at-preserved g c =
    let l = c.loop-at in
    let xs = c.args.list.now in
    let low : l.at < length xs = omega arith in
    record {
      long = length-set l.list l.at c.shifted.result ∙ l.invariant.long;
      done = ap (λ y. set l.list l.at y) c.shifted.ensures ∙ map_over_more (g.T.Shift.shift c.args.by) xs l.list l.at c.index-list-at.result low l.invariant.done c.index-list-at.is;
    }
