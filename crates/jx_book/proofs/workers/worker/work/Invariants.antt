use Rattle.std.proofs.Common.{◌≡◌, false}
use Rattle.jx_book.specs.Worked.{Worked}
use Rattle.jx_book.proofs.workers.worker.work.Given as goal

abbrev pub invariant-loop : goal.invariant-loop
invariant-loop g l = record {
  worked : Worked l.cutting.pieces l.initial.seat l.initial.share l.seat l.share 0;
  unspent : l.seat.spent ≡ false;
}
