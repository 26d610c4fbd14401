use Rattle.jx_claim.specs.Claimed.{AllSeats}
use Rattle.test_calls.proofs.claim.draws.push_draws.Given as goal

abbrev pub invariant-loop-letter : goal.invariant-loop-letter
invariant-loop-letter l = AllSeats l.claims l.seats.items
