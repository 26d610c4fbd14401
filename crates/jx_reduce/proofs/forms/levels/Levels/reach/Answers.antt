use Rattle.std.proofs.Common.{◌∙◌, arith}
use Rattle.jx_reduce.proofs.Acting.{one_level, some_left}
use Rattle.jx_reduce.proofs.forms.levels.Levels.reach.Goals as goal

pub loop-level-preserved : goal.loop-level-preserved
loop-level-preserved c =
    let none = rw (c.deref-level-items.ensures.value, c.top_of.ensures) at c.in-None.ensures in
    let some = some_left _ c.args.holders.now c.loop-level.left none in
    record {
      left = omega (arith, c.loop-level.invariant.left, some);
      rest = λ k. c.loop-level.invariant.rest k
          ∙ one_level c.args.self.now.ended.items c.loop-level.level-index _ c.args.holders.now c.loop-level.left k (rw c.deref-level-items.ensures.value at c.loop-level-test.true) (omega (arith, c.loop-level.invariant.left)) none;
    }
