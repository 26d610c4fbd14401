use Rattle.std.proofs.Common.{◌<◌, vec_len}
use Rattle.jx_parallel.proofs.finishing.finish.Given as goal

abbrev pub invariant-loop : goal.invariant-loop
invariant-loop g l =
    (goal.iterator-loop g).can_next l.iterator' × (goal.iterator-loop g).is_finite l.iterator' × (0 < vec_len l.buffer)
