use Rattle.std.proofs.Common.{◌<◌, length, arith, subst, sym, ◌∙◌}
use Rattle.std.proofs.lemmas.List.Sums.{count_by_more_yes, count_by_more_no}
use Rattle.jx_lex.specs.declared.alphabet.state.LexState.TheVariants as state
use Rattle.jx_maps.specs.inside.Bundle.{is_live}
use Rattle.jx_maps.proofs.bundle.count_live.Goals as goal
use Rattle.jx_maps.proofs.bundle.count_live.Goals.{then-is_live, else-is_live}

pub loop-state-preserved : goal.loop-state-preserved
loop-state-preserved c =
    let v = c.loop-state.invariant in
    let i = c.loop-state.state-index in
    let xs = c.all-state-items.result in
    let low : i < length xs = subst (λ ys. i < length ys) (sym c.all-state-items.ensures) c.loop-state-test.true in
    let le = v.low in
    let same = v.same in
    elim c.if-is_live.branch [
      | then-is_live w ↦ (
          let more = count_by_more_yes (is_live c.args.live.now) xs i state.Gap low (sym c.is_live.ensures ∙ w.if-is_live.true) in
          let n = w.count-is in
          record { same = omega (arith, more, n, same); low = omega (arith, n, le) })
      | else-is_live w ↦ (
          let more = count_by_more_no (is_live c.args.live.now) xs i state.Gap low (sym c.is_live.ensures ∙ w.if-is_live.false) in
          let n = w.count-is in
          record { same = omega (arith, more, n, same); low = omega (arith, n, le) })
    ]
