-- The values that a worker that began with nothing hands back where it ended.
use Rattle.std.specs.Prelude.{◌≡◌, ◌+◌, List, [], true, false}
use Rattle.jx_summary.specs.declared.span.Span.{Span}
use Rattle.jx_claim.specs.Claimed.{TableId, SeatValue}
use Rattle.jx_claim.specs.Cut.{drawn_len}
use Rattle.jx_book.specs.declared.workers.worker.WorkerEnd.{WorkerEnd}
use Rattle.jx_book.specs.Shares.{share}
use Rattle.test_examples.specs.declared.own_threads.Hands.{Hands}

-- a worker handle of these claims that has taken nothing
abbrev pub IsNewSeat : TableId → SeatValue → Type 0
IsNewSeat id s = (s.id ≡ id) × (s.got ≡ []) × (s.spent ≡ false)

-- the same, with a share that has put and taken nothing
abbrev pub AreNew : {P T : Type 0} → TableId → Hands P T → Type 0
AreNew id h = IsNewSeat id h.seat × (h.share ≡ share 0 0)

-- its worker handle got none at last, and the bytes of the chunks that it took are those that its share put, minus those that it took
abbrev pub HasEnded : {P T : Type 0} → List Span → TableId → WorkerEnd P T → Type 0
HasEnded pieces id e = (e.seat.id ≡ id) × (e.seat.spent ≡ true) × (drawn_len pieces e.seat.got + e.share.taken ≡ e.share.put)
