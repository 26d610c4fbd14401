use Rattle.std.proofs.Common.{◌<◌, ◌++◌, length, sym, subst, ◌∙◌, arith}
use Rattle.std.proofs.lemmas.List.{length-set}
use Rattle.jx_values.specs.inside.Kept.{IsKeptOf}
use Rattle.jx_values.proofs.Gathers.{kept_step}
use Rattle.jx_values.proofs.value_reader.keep_each.Goals as goal

pub loop-number-preserved : goal.loop-number-preserved
loop-number-preserved c =
    let l = c.loop-number in
    let xs = l.kept.items in
    let x = c.index_mut-one.result.now in
    let y = c.keep.new.self in
    let low : l.number < length xs = omega arith in
    record {
      long = length-set xs l.number y ∙ l.invariant.long;
      kept = λ text long all.
          let so = l.invariant.kept text long all in
          kept_step (IsKeptOf text) (IsKeptOf (text ++ c.args.batch.now)) xs l.number y low
          (c.in_ok-keep.ensures text long (subst (IsKeptOf text) (sym c.index_mut-one.ensures.value) (so.rest l.number x (omega arith) low))) so;
    }
