-- Partial results of a text as C sees them: run files in buffers of the caller's.
use Rattle.std.specs.Prelude.{◌≡◌, ℕ, ◌<◌, ◌≤◌, ◌==◌, List, ◌++◌, length, drop, Option, None, Some, if◌then◌else◌}
use Rattle.jx_portion.specs.Portion.{end_of, start_of, IsMismatch, IsRecord, IsSaidBy, Meets, PortionValue}
use Rattle.jx_portion.specs.Reading.{IsSealed}
use Rattle.jx_portion.specs.declared.portion.Mismatch.{Mismatch}
use Rattle.jx_portion.specs.declared.portion.Mismatch.TheVariants.{Depths, Froms, Place, TooLong}
use Rattle.jx_run.specs.Verdict.{Judged}
use Rattle.jx_run.specs.declared.texts.verdict.Verdict.{Verdict}
use Rattle.jx_c.specs.Verdict.{shown}
use Rattle.jx_c.specs.declared.shapes.verdict.JxVerdict.{JxVerdict}

-- where a part stands in the text, or that nobody told
abbrev pub from_in : ℕ → Option ℕ
from_in from = if from == 18446744073709551615 then None else Some from

-- the run file of these bytes is at the front of the buffer, and the rest of the buffer is as it was
pub record IsWritten (bytes : List ℕ) (from : Option ℕ) (depth : ℕ) (old new : List ℕ) (size : ℕ) : Type 0 where
  pub run : List ℕ
  pub is : IsRecord bytes from depth run
  pub size_is : size ≡ length run
  pub fits : size ≤ length old
  pub written : new ≡ run ++ drop size old

-- how long the record of these bytes is, for which the buffer has no room
pub record IsTooLong (bytes : List ℕ) (from : Option ℕ) (depth : ℕ) (buffer : List ℕ) (size : ℕ) : Type 0 where
  pub run : List ℕ
  pub is : IsRecord bytes from depth run
  pub size_is : size ≡ length run
  pub long : length buffer < size

-- it shows the verdict on these bytes, which stand from this offset on
abbrev pub IsVerdictFrom : ℕ → List ℕ → ℕ → JxVerdict → Type 0
IsVerdictFrom start bytes depth v = (verdict : Verdict) × (Judged start bytes depth verdict × (v ≡ shown verdict))

-- ---- statuses: 0 is JX_OK, 1 JX_NO_MEMORY, 4 JX_TOO_MANY_BYTES, 11 JX_NO_ROOM, 12 JX_NOT_A_RUN, 13 JX_OTHER_DEPTH and 14 JX_NOT_NEIGHBOURS

-- why two runs can't be joined
abbrev pub status_of : Mismatch → ℕ
status_of Depths = 13
status_of Froms = 14
status_of Place = 14
status_of TooLong = 4

-- the bytes of both are runs, which may be joined
pub record AreNeighbours (left right : List ℕ) : Type 0 where
  pub first : PortionValue
  pub second : PortionValue
  pub says_first : IsSaidBy left first
  pub says_second : IsSaidBy right second
  pub meet : Meets first second

-- when a join may allocate: to read what has the head and the checksum of a run, the right after the left, and to join what may be joined
pub data MayWant (left right : List ℕ) : Type 0 where
  for_left : IsSealed left → MayWant left right
  for_right : (first : PortionValue) → IsSaidBy left first → IsSealed right → MayWant left right
  for_both : AreNeighbours left right → MayWant left right

-- when a join has which status
pub data IsJoinStatus (left right : List ℕ) : ℕ → Type 0 where
  joined : AreNeighbours left right → IsJoinStatus left right 0
  no_room : AreNeighbours left right → IsJoinStatus left right 11
  apart : (first second : PortionValue) (mismatch : Mismatch) → IsSaidBy left first → IsSaidBy right second → IsMismatch first second mismatch
      → IsJoinStatus left right (status_of mismatch)
  left_no_run : ((p : PortionValue) → IsSaidBy left p → ⊥) → IsJoinStatus left right 12
  right_no_run : ((p : PortionValue) → IsSaidBy right p → ⊥) → IsJoinStatus left right 12
  no_memory : MayWant left right → IsJoinStatus left right 1

-- when a verdict on a run, which has to be of the bytes from `start` up to `end`, has which status
pub data IsVerdictStatus (run : List ℕ) (start end : ℕ) : ℕ → Type 0 where
  judged : (p : PortionValue) → IsSaidBy run p → start ≡ start_of p → end ≡ end_of p → IsVerdictStatus run start end 0
  of_other_bytes : (p : PortionValue) → IsSaidBy run p → ((start ≡ start_of p) × (end ≡ end_of p) → ⊥) → IsVerdictStatus run start end 14
  no_run : ((p : PortionValue) → IsSaidBy run p → ⊥) → IsVerdictStatus run start end 12
  no_memory_there : IsSealed run → IsVerdictStatus run start end 1
