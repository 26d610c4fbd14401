-- A batch whose front one worker reads from where the reader stands.
use Rattle.std.specs.Prelude.{◌≡◌, ℕ, ◌+◌, List, ◌++◌, length, Result, Ok, Err}
use Rattle.jx_run.specs.Reader.{ReaderValue, HasRead, HasFailed}
use Rattle.jx_book.specs.declared.workers.worker.Cause.{Cause}
use Rattle.jx_book.specs.declared.workers.worker.Cause.TheVariants.{Gate, Memory}
use Rattle.jx_answer.specs.declared.batches.front.FrontState.{FrontState}
use Rattle.jx_answer.specs.declared.batches.front.FrontState.TheVariants.{Unread, Done, Refused}

-- the reader went on with these bytes
pub record GoesOn (bytes : List ℕ) (old new : ReaderValue) : Type 0 where
  pub settings : new.settings ≡ old.settings
  pub start : new.start ≡ old.start
  pub count : new.count ≡ old.count + length bytes
  pub reads : (before : List ℕ) → HasRead before old → HasRead (before ++ bytes) new
  pub going : HasFailed old → ⊥

-- out of memory
pub record GivesUp (old new : ReaderValue) : Type 0 where
  pub settings : new.settings ≡ old.settings
  pub start : new.start ≡ old.start
  pub failed : HasFailed new

-- the state that the worker of a front of these bytes leaves
abbrev pub Leaves : List ℕ → ReaderValue → FrontState → ReaderValue → Type 0
Leaves bytes old Unread new = new ≡ old
Leaves bytes old Done new = GoesOn bytes old new
Leaves bytes old Refused new = GivesUp old new

-- a front is unread where the gate said so, and refused for memory; after one that was read the gate alone may say stop
abbrev pub EndsAt : FrontState → Result (Unit {0}) Cause → Type 0
EndsAt Unread ended = ended ≡ Err Gate
EndsAt Refused ended = ended ≡ Err Memory
EndsAt Done (Ok done) = Unit {0}
EndsAt Done (Err cause) = cause ≡ Gate
