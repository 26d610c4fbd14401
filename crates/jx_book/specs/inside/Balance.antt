-- The state with which workers begin and end.
use Rattle.std.specs.Prelude.{◌≡◌, ◌+◌, List, [], Bool, true, false, Ok, Err}
use Rattle.std.specs.declared.result.Result.{Result}
use Rattle.jx_summary.specs.declared.span.Span.{Span}
use Rattle.jx_claim.specs.Claimed.{TableId, SeatValue}
use Rattle.jx_claim.specs.Cut.{drawn_len}
use Rattle.jx_book.specs.declared.workers.worker.Cause.{Cause}
use Rattle.jx_book.specs.declared.workers.worker.WorkerEnd.{WorkerEnd}
use Rattle.jx_book.specs.declared.workers.worker.WorkerStop.{WorkerStop}
use Rattle.jx_book.specs.declared.workers.reading.Job.{Job}
use Rattle.jx_book.specs.Shares.{ShareValue, share}
use Rattle.jx_book.specs.Worked.{hand_len}

-- nothing is done yet
abbrev pub IsFresh : {P T : Type 0} → TableId → Job P T → Type 0
IsFresh id j = (j.seat.id ≡ id) × (j.seat.got ≡ []) × (j.seat.spent ≡ false) × (j.share ≡ share 0 0)

-- the bytes of the chunks that the worker handle drew are what the share put, minus what it took, plus what is in the
-- hand
abbrev pub Balances : {S P T : Type 0} → List Span → TableId → Result (WorkerEnd P T) (WorkerStop S P T) → Type 0
Balances ps id (Ok e) = (e.seat.id ≡ id) × (e.seat.spent ≡ true) × (drawn_len ps e.seat.got + e.share.taken ≡ e.share.put)
Balances ps id (Err s) = (s.seat.id ≡ id) × (drawn_len ps s.seat.got + s.share.taken ≡ s.share.put + hand_len ps s.hand)

-- a worker whose extra task gave a cause stops for that cause
abbrev pub StopsFor : {S P T : Type 0} → Result (Unit {0}) Cause → Result (WorkerEnd P T) (WorkerStop S P T) → Type 0
StopsFor (Ok ended) end = Unit {0}
StopsFor (Err cause) (Ok e) = ⊥
StopsFor (Err cause) (Err s) = s.cause ≡ cause

-- the worker handle is of these claims; where the worker ended, it is spent, and nothing is in a hand
abbrev pub IsHandedBack : List Span → TableId → SeatValue → ShareValue → Bool → Type 0
IsHandedBack ps id seat s ended = (seat.id ≡ id) × (ended ≡ true → (seat.spent ≡ true) × (drawn_len ps seat.got + s.taken ≡ s.put))
