use Rattle.std.proofs.Common.{vec_len}
use Rattle.jx_parallel.proofs.check.lead_of.Given as goal

abbrev pub decreases-loop-result : goal.decreases-loop-result
decreases-loop-result g l = vec_len l.results
