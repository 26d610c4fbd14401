use Rattle.std.proofs.Common.{◌≡◌, ◌+◌, [], false, vec_len}
use Rattle.std.specs.Prelude.{All}
use Rattle.jx_book.specs.Shares.{share}
use Rattle.jx_book.specs.inside.Balance.{IsFresh}
use Rattle.jx_book.proofs.workers.reading.pair.Given as goal

abbrev pub invariant-loop-seat : goal.invariant-loop-seat
invariant-loop-seat g l = record {
  len : vec_len l.seats ≡ vec_len l.shares;
  jobs : vec_len l.jobs + vec_len l.shares ≡ vec_len l.fn.seats;
  seats : All (λ s. (s.id ≡ l.claims.id) × (s.got ≡ []) × (s.spent ≡ false)) l.seats.items;
  shares : All (λ s. s ≡ share 0 0) l.shares.items;
  fresh : All (λ j. IsFresh l.claims.id j) l.jobs.items;
}

abbrev pub decreases-loop-seat : goal.decreases-loop-seat
decreases-loop-seat g l = vec_len l.seats
