use Rattle.std.proofs.Common.{arith}
use Rattle.jx_index.proofs.TokenSteps.{no_slash_more}
use Rattle.jx_each.proofs.token.token_len.Goals as goal

pub loop-at-preserved : goal.loop-at-preserved
loop-at-preserved c = no_slash_more c.args.bytes.now c.loop-at.at (omega arith) c.loop-at.invariant c.if-bytes-at-eq47.false
