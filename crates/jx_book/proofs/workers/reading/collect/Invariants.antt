use Rattle.std.proofs.Common.{◌≡◌, ◌+◌, true, vec_len}
use Rattle.std.specs.Prelude.{All, sum_by}
use Rattle.jx_claim.specs.Cut.{drawn_len}
use Rattle.jx_book.specs.inside.Balance.{Balances}
use Rattle.jx_book.proofs.workers.reading.collect.Given as goal

abbrev pub invariant-loop-end : goal.invariant-loop-end
invariant-loop-end g l = record {
  seats_len : vec_len l.ends + vec_len l.seats ≡ vec_len l.fn.ends;
  shares_len : vec_len l.ends + vec_len l.shares ≡ vec_len l.fn.ends;
  rest : All (λ r. Balances l.cutting.pieces l.claims.id r) l.ends.items;
  seats_of : All (λ s. s.id ≡ l.claims.id) l.seats.items;
  spent : l.ended ≡ true → All (λ s. s.spent ≡ true) l.seats.items;
  bytes : l.ended ≡ true → sum_by (λ s. drawn_len l.cutting.pieces s.got) l.seats.items + sum_by (λ s. s.taken) l.shares.items ≡ sum_by (λ s. s.put) l.shares.items;
}

abbrev pub decreases-loop-end : goal.decreases-loop-end
decreases-loop-end g l = vec_len l.ends
