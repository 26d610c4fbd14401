use Rattle.std.proofs.Common.{◌≡◌, ◌+◌, vec_len}
use Rattle.std.specs.Prelude.{All}
use Rattle.jx_book.specs.Shares.{share}
use Rattle.jx_book.proofs.lock.book.deal.Given as goal

abbrev pub invariant-loop-i : goal.invariant-loop-i
invariant-loop-i g l = record {
  put : (l.put.parts + l._i ≡ l.count) × (l.put.amount ≡ 0);
  taken : (l.taken.parts + l._i ≡ l.count) × (l.taken.amount ≡ 0);
  shares : (vec_len l.shares ≡ l._i) × All (λ s. s ≡ share 0 0) l.shares.items;
}
