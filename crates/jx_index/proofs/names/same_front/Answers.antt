use Rattle.std.proofs.Common.{◌∙◌, arith}
use Rattle.jx_index.proofs.SameFront.{front_more}
use Rattle.jx_index.proofs.names.same_front.Goals as goal

pub loop-at-preserved : goal.loop-at-preserved
loop-at-preserved c =
    c.loop-at.invariant
    ∙ front_more c.args.one c.args.other c.args.left.now c.args.right.now c.loop-at.at (omega arith) (omega arith) (omega arith) (omega arith) (omega arith) (omega arith)
