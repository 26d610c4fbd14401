use Rattle.std.proofs.Common.{◌≡◌}
use Rattle.test_threads.proofs.tests.draws.drain.Given as goal

abbrev pub invariant-loop : goal.invariant-loop
invariant-loop l = l.seat.id ≡ l.claims.id
