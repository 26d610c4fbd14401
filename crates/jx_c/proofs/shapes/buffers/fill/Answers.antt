use Rattle.std.proofs.Common.{refl, ap, arith, ◌∙◌}
use Rattle.std.proofs.lemmas.List.{length-set}
use Rattle.jx_c.proofs.Filled.{one_more, rest_stays, all_filled}
use Rattle.jx_c.proofs.shapes.buffers.fill.Goals as goal

pub loop-at-init : goal.loop-at-init
loop-at-init g c = record { long = refl; shown_are = refl; rest = λ k h. refl }

pub loop-at-preserved : goal.loop-at-preserved
loop-at-preserved g c = let form = g.T.Seen.form in let old = c.args.buffer.now in let new = c.loop-at.buffer in let at = c.loop-at.at in
    record {
      long = length-set new at _ ∙ c.loop-at.invariant.long;
      shown_are = one_more form old new c.args.from.now at c.seen.result c.index-from-at.result (omega arith) (omega arith) (c.seen.ensures ∙ ap form c.index-from-at.is) c.loop-at.invariant;
      rest = rest_stays form old new c.args.from.now at c.seen.result c.loop-at.invariant;
    }

pub returns : goal.returns
returns g c = all_filled g.T.Seen.form c.args.buffer.now c.loop-at.buffer c.args.from.now c.loop-at.at (omega arith) c.loop-at.invariant
