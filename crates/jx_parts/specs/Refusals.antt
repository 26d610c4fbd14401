-- Why a stream of runs is not taken: the first run file that is not the next one of runs of neighbours, and what is
-- wrong with it.
use Rattle.std.specs.Prelude.{◌≡◌, ◌≢◌, ◌⊎◌, ℕ, ◌+◌, ◌*◌, ◌<◌, ◌≤◌, List, [], ◌++◌, length, take, Option, None, Some, Ok, Err, unwrap_or}
use Rattle.std.specs.List.{concat}
use Rattle.jx_portion.specs.declared.fault.RunFault.{RunFault}
use Rattle.jx_portion.specs.declared.fault.RunFault.TheVariants as fault
use Rattle.jx_portion.specs.Fields.{RunFields}
use Rattle.jx_portion.specs.Portion.{IsRun, IsSpelt}
use Rattle.jx_portion.specs.Reading.{head_at, record_at}
use Rattle.jx_parts.specs.declared.parts_fault.PartsFault.{PartsFault}
use Rattle.jx_parts.specs.declared.parts_fault.PartsFault.TheVariants.{Report, NoRuns, Run, Elsewhere}
use Rattle.jx_parts.specs.declared.parts_fault.RunRefusal.{RunRefusal}
use Rattle.jx_parts.specs.declared.parts_fault.RunRefusal.TheVariants.{NotARun, OtherVersion, CutShort, Damaged, Malformed, OtherDepth, Misplaced, NoFrom}
use Rattle.jx_parts.specs.Records.{AreRuns, HoldsRuns}

-- ---- what is wrong with a record by itself

-- by the first fault that reading it from left to right meets
abbrev pub refusal_of : RunFault → RunRefusal
refusal_of fault.NotARun = NotARun
refusal_of fault.OtherVersion = OtherVersion
refusal_of fault.CutShort = CutShort
refusal_of fault.Damaged = Damaged
refusal_of (fault.Malformed field) = Malformed

-- how many bytes a run file has at most
abbrev pub most : ℕ → ℕ
most depth = 4096 + 1120 * depth

-- these bytes are the head of a run file of this depth and this size
abbrev pub IsHead : ℕ → ℕ → List ℕ → Type 0
IsHead depth size head = (rest : List ℕ) × (head_at head ≡ Ok (record { size = size; depth = depth }, rest))

-- no head of a run file with this depth
pub data IsNoHead (depth : ℕ) (head : List ℕ) (why : RunRefusal) : Type 0 where
  no_head : (it : RunFault) → head_at head ≡ Err it → why ≡ refusal_of it → IsNoHead depth head why
  another_depth : (size other : ℕ) → IsHead other size head → other ≢ depth → why ≡ OtherDepth other → IsNoHead depth head why
  no_size : (size : ℕ) → IsHead depth size head → (size < 24) ⊎ (most depth < size) → why ≡ Malformed → IsNoHead depth head why

-- no run file of a run
pub data IsNoRun (bytes : List ℕ) (why : RunRefusal) : Type 0 where
  unreadable : (it : RunFault) → record_at bytes ≡ Err it → why ≡ refusal_of it → IsNoRun bytes why
  no_parts : (depth : ℕ) (fields : RunFields) → record_at bytes ≡ Ok (depth, fields) → (IsRun depth fields → ⊥) → why ≡ Malformed → IsNoRun bytes why

-- bytes do not begin with a run file of a run of this depth: its head is not one, or they end within it, or the rest is
-- not one
pub data IsNoRecord (depth : ℕ) (bytes : List ℕ) (why : RunRefusal) : Type 0 where
  by_head : IsNoHead depth (take 24 bytes) why → IsNoRecord depth bytes why
  by_end : (size : ℕ) → IsHead depth size (take 24 bytes) → length bytes < size → why ≡ CutShort → IsNoRecord depth bytes why
  by_record : (size : ℕ) → IsHead depth size (take 24 bytes) → size ≤ length bytes → IsNoRun (take size bytes) why → IsNoRecord depth bytes why

-- ---- what is wrong with a stream

-- its first runs are those of neighbours, and these bytes are all that follows them
pub record IsBehind (depth : ℕ) (from : Option ℕ) (count number : ℕ) (stream rest : List ℕ) : Type 0 where
  pub records : List (List ℕ)
  pub runs : AreRuns depth from records count
  pub counted : number ≡ length records
  pub whole : stream ≡ concat records ++ rest

-- after runs of neighbours stands no run of this depth, or one that does not begin where those before it end, or one
-- that says where it begins where those before it do not, or the other way round; then the run without an offset is
-- named
pub data IsRefused (depth : ℕ) (stream : List ℕ) (number : ℕ) (why : RunRefusal) : Type 0 where
  alone : (from : Option ℕ) (count : ℕ) (rest : List ℕ) → IsBehind depth from count number stream rest → rest ≢ [] → IsNoRecord depth rest why
      → IsRefused depth stream number why
  misplaced : (start count at : ℕ) (bytes rest : List ℕ) (fields : RunFields) → IsBehind depth (Some start) count number stream (bytes ++ rest) → 0 < number
      → IsSpelt depth fields bytes → fields.from ≡ Some at → at ≢ start + count → why ≡ Misplaced at (start + count) → IsRefused depth stream number why
  without_from : (start count : ℕ) (bytes rest : List ℕ) (fields : RunFields) → IsBehind depth (Some start) count number stream (bytes ++ rest) → 0 < number
      → IsSpelt depth fields bytes → fields.from ≡ None → why ≡ NoFrom → IsRefused depth stream number why
  first_without_from : (count at behind : ℕ) (bytes rest : List ℕ) (fields : RunFields) → IsBehind depth None count behind stream (bytes ++ rest) → 0 < behind
      → IsSpelt depth fields bytes → fields.from ≡ Some at → number ≡ 0 → why ≡ NoFrom → IsRefused depth stream number why

-- runs of neighbours that are those of another part of the text
pub record IsElsewhere (depth : ℕ) (stream : List ℕ) (start end from to : ℕ) : Type 0 where
  pub at : Option ℕ
  pub count : ℕ
  pub holds : HoldsRuns depth at count stream
  pub begins : start ≡ unwrap_or at 0
  pub ends : end ≡ start + count
  pub apart : (start ≢ from) ⊎ (end ≢ to)

-- one of a report
abbrev pub IsReport : PartsFault → Type 0
IsReport (Report it) = Unit {0}
IsReport NoRuns = ⊥
IsReport (Run number why) = ⊥
IsReport (Elsewhere start end from to) = ⊥

-- which fault a stream of runs gets that is to be joined
abbrev pub IsJoinFault : ℕ → List ℕ → PartsFault → Type 0
IsJoinFault depth stream (Report it) = Unit {0}
IsJoinFault depth stream NoRuns = stream ≡ []
IsJoinFault depth stream (Run number why) = IsRefused depth stream number why
IsJoinFault depth stream (Elsewhere start end from to) = ⊥

-- which fault one gets whose runs are to cover the text from one offset up to the other
abbrev pub IsWholeFault : ℕ → ℕ → ℕ → List ℕ → PartsFault → Type 0
IsWholeFault depth from to stream (Report it) = Unit {0}
IsWholeFault depth from to stream NoRuns = stream ≡ []
IsWholeFault depth from to stream (Run number why) = IsRefused depth stream number why
IsWholeFault depth from to stream (Elsewhere start end other_from other_to) = (other_from ≡ from) × (other_to ≡ to) × IsElsewhere depth stream start end from to

-- which fault runs of neighbours get, from this offset on and of so many bytes: one of a report, or that these are not the bounds
abbrev pub IsOfBounds : Option ℕ → ℕ → ℕ → ℕ → PartsFault → Type 0
IsOfBounds at count from to (Report it) = Unit {0}
IsOfBounds at count from to NoRuns = ⊥
IsOfBounds at count from to (Run number why) = ⊥
IsOfBounds at count from to (Elsewhere start end other_from other_to) =
    (other_from ≡ from) × (other_to ≡ to) × (start ≡ unwrap_or at 0) × (end ≡ start + count) × ((start ≢ from) ⊎ (end ≢ to))
