use Rattle.std.proofs.Common.{◌≡◌, ◌+◌, vec_len, sum_by}
use Rattle.jx_book.proofs.lock.locked.merge_all.Given as goal

abbrev pub invariant-loop-share : goal.invariant-loop-share
invariant-loop-share g l = record {
  put_parts : l.all_put.parts + vec_len l.shares ≡ vec_len l.fn.shares;
  taken_parts : l.all_taken.parts + vec_len l.shares ≡ vec_len l.fn.shares;
  put : l.all_put.amount + sum_by (λ s. s.put) l.shares.items ≡ sum_by (λ s. s.put) l.fn.shares.items;
  taken : l.all_taken.amount + sum_by (λ s. s.taken) l.shares.items ≡ sum_by (λ s. s.taken) l.fn.shares.items;
}

abbrev pub decreases-loop-share : goal.decreases-loop-share
decreases-loop-share g l = vec_len l.shares
