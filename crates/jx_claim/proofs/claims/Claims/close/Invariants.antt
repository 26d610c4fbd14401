use Rattle.std.proofs.Common.{◌≡◌, ℕ, ◌+◌, vec_len}
use Rattle.std.specs.Prelude.{sum_by, count_by, All}
use Rattle.jx_claim.specs.Claimed.{times}
use Rattle.jx_claim.proofs.claims.Claims.close.Given as goal

abbrev pub invariant-loop-next : goal.invariant-loop-next
invariant-loop-next l = record {
  id : l.all.table_id ≡ l.initial.all.table_id;
  seats : l.all.me.0.seats + vec_len l.seats ≡ l.fn.self.workers;
  got : (x : ℕ) → times x l.all.me.0.got + sum_by (λ s. times x s.got) l.seats.items ≡ sum_by (λ s. times x s.got) l.fn.seats.items;
  nones : l.all.me.0.nones + count_by (λ s. s.spent) l.seats.items ≡ count_by (λ s. s.spent) l.fn.seats.items;
  of_these : All (λ s. s.id ≡ l.fn.self.id) l.seats.items;
}

abbrev pub decreases-loop-next : goal.decreases-loop-next
decreases-loop-next l = vec_len l.seats
