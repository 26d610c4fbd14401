use Rattle.jx_claim.proofs.Deals.{begins}
use Rattle.jx_claim.proofs.claims.Claims.open.Goals as goal
use Rattle.std.proofs.Common.{arith}

pub of_words-requires : goal.of_words-requires
of_words-requires c = begins (record { pieces = c.args.pieces; workers = c.count-count.result }) (omega arith) (omega arith)
