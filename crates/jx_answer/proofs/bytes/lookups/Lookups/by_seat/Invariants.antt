use Rattle.std.proofs.Common.{◌≡◌, false}
use Rattle.jx_answer.specs.Found.{AreAnswered}
use Rattle.jx_answer.proofs.bytes.lookups.Lookups.by_seat.Given as goal

abbrev pub invariant-loop : goal.invariant-loop
invariant-loop g l = record {
  seat : l.seat.id ≡ l.claims.id;
  unspent : l.seat.spent ≡ false;
  found : AreAnswered l.self.index.now l.self.pointers.now l.found.items;
}
