use Prim.Native.Nat.{◌+◌, ◌*◌}
use Rattle.jx_fork.proofs.calls.+first.Given as goal

abbrev pub decreases-call_first : goal.decreases-call_first
decreases-call_first g l = 2 * l.jobs.len

abbrev pub decreases-before : goal.decreases-before
decreases-before g l = 2 * l.jobs.len + 1
