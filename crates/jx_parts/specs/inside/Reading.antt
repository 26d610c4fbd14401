-- The bytes read of a part, or of a stream of run files.
use Rattle.std.specs.Prelude.{◌≡◌, ◌≢◌, ℕ, ◌+◌, ◌<◌, ◌≤◌, List, [], ◌++◌, length, take, drop, Option, None, Some, Vec}
use Rattle.std.specs.Int.{from_be_bytes, w64}
use Rattle.std.specs.List.{concat, AllByRecursion}
use Rattle.std.specs.Io.KnownBytes.{Consumes}
use Rattle.std.specs.declared.alloc.Global.{Global}
use Rattle.jx_portion.specs.declared.fault.DecodeFault.{DecodeFault}
use Rattle.jx_portion.specs.declared.fault.DecodeFault.TheVariants as refused
use Rattle.jx_portion.specs.Portion.{PortionValue, IsPortion, IsRecord, IsSaidBy}
use Rattle.jx_ends.specs.Ends.{ReadsToEnd}
use Rattle.jx_ends.specs.declared.report_fault.ReportFault.TheVariants.{Memory}
use Rattle.jx_parts.specs.Records.{behind, AreRecords, AreRuns, HoldsRuns}
use Rattle.jx_parts.specs.Refusals.{refusal_of, IsHead}
use Rattle.jx_parts.specs.declared.parts_fault.PartsFault.{PartsFault}
use Rattle.jx_parts.specs.declared.parts_fault.PartsFault.TheVariants.{Report, NoRuns, Run, Elsewhere}
use Rattle.jx_parts.specs.declared.parts_fault.RunRefusal.{RunRefusal}
use Rattle.jx_parts.specs.declared.parts_fault.RunRefusal.TheVariants.{Misplaced, NoFrom}

-- all that the reader had was read, and this is its partial result
pub record IsRead (from : Option ℕ) (depth : ℕ) (unread left : Option (List ℕ)) (portion : PortionValue) : Type 0 where
  pub text : List ℕ
  pub read : ReadsToEnd unread left text
  pub of : IsPortion text from depth portion

-- how many bytes a run file has by its head
abbrev pub told_size : List ℕ → ℕ
told_size bytes = from_be_bytes w64 (take 8 (drop 8 bytes))

-- the depth of a run file's run by its head
abbrev pub told_depth : List ℕ → ℕ
told_depth bytes = from_be_bytes w64 (take 8 (drop 8 (drop 8 bytes)))

-- bytes as many as their head says
abbrev pub HasItsLength : List ℕ → Type 0
HasItsLength bytes = (told_size bytes ≡ length bytes) × (24 ≤ length bytes)

-- the reader gave these bytes, which are as many as their head says, of a run of this depth
pub record IsCut (depth : ℕ) (unread left : Option (List ℕ)) (bytes : List ℕ) : Type 0 where
  pub read : Consumes unread left bytes
  pub long : HasItsLength bytes
  pub deep : told_depth bytes ≡ depth
  pub head : IsHead depth (length bytes) (take 24 bytes)

-- the reader is at its end, or gave bytes as many as their head says
abbrev pub IsNextRecord : ℕ → Option (List ℕ) → Option (List ℕ) → Option (Vec ℕ Global) → Type 0
IsNextRecord depth unread left None = ReadsToEnd unread left []
IsNextRecord depth unread left (Some bytes) = IsCut depth unread left bytes.items

-- the reader gave bytes, and this is the partial result that they say
pub record IsTaken (depth : ℕ) (unread left : Option (List ℕ)) (portion : PortionValue) : Type 0 where
  pub bytes : List ℕ
  pub cut : IsCut depth unread left bytes
  pub said : IsSaidBy bytes portion
  pub reads : (part : List ℕ) (from : Option ℕ) (d : ℕ) → IsRecord part from d bytes → IsPortion part from d portion

-- the reader is at its end, or gave a run file
abbrev pub IsNext : ℕ → Option (List ℕ) → Option (List ℕ) → Option PortionValue → Type 0
IsNext depth unread left None = ReadsToEnd unread left []
IsNext depth unread left (Some portion) = IsTaken depth unread left portion

-- so many run files were read, and this is the partial result of their parts
pub record AreTaken (depth : ℕ) (unread left : Option (List ℕ)) (portion : PortionValue) : Type 0 where
  pub records : List (List ℕ)
  pub some : 0 < length records
  pub deep : portion.run.depth ≡ depth
  pub runs : AreRuns depth portion.from records portion.run.end
  pub read : Consumes unread left (concat records)
  pub long : AllByRecursion HasItsLength records
  pub of : (from : Option ℕ) (d : ℕ) (parts : List (List ℕ)) → AreRecords d from parts records → IsPortion (concat parts) from d portion

-- so many run files were read, and this is the partial result of their parts
pub record AreCounted (depth number : ℕ) (unread left : Option (List ℕ)) (portion : PortionValue) : Type 0 where
  pub taken : AreTaken depth unread left portion
  pub counted : number ≡ length taken.records

-- all that the reader had was read, and this is the partial result of the parts whose run files it was
pub record IsJoined (depth : ℕ) (unread left : Option (List ℕ)) (portion : PortionValue) : Type 0 where
  pub stream : List ℕ
  pub holds : HoldsRuns depth portion.from portion.run.end stream
  pub read : ReadsToEnd unread left stream
  pub of : (from : Option ℕ) (parts records : List (List ℕ)) → stream ≡ concat records → AreRecords depth from parts records
      → IsPortion (concat parts) from depth portion

-- the last of some run files, and the part that it is of
pub record IsLast (depth : ℕ) (from : Option ℕ) (parts records : List (List ℕ)) (bytes : List ℕ) : Type 0 where
  pub front : List (List ℕ)
  pub part : List ℕ
  pub whole : concat parts ≡ concat front ++ part
  pub are : AreRecords depth from front records
  pub is : IsRecord part (behind from (length (concat front))) depth bytes

-- ---- faults

-- one of a report, or of the run with this number, for such a reason
abbrev pub IsFaultOf : ℕ → (RunRefusal → Type 0) → PartsFault → Type 0
IsFaultOf number P (Report it) = Unit {0}
IsFaultOf number P NoRuns = ⊥
IsFaultOf number P (Run other why) = (other ≡ number) × P why
IsFaultOf number P (Elsewhere start end from to) = ⊥

abbrev pub fault_of_run : DecodeFault → ℕ → PartsFault
fault_of_run refused.Memory number = Report Memory
fault_of_run (refused.Fault it) number = Run number (refusal_of it)

-- why a partial result of the same depth does not follow another one
pub data IsApart (joined next : PortionValue) (number : ℕ) (fault : PartsFault) : Type 0 where
  too_long : fault ≡ Report Memory → IsApart joined next number fault
  not_behind : (start at : ℕ) → joined.from ≡ Some start → next.from ≡ Some at → at ≢ start + joined.run.end → fault ≡ Run number (Misplaced at (start + joined.run.end))
      → IsApart joined next number fault
  is_without : (start : ℕ) → joined.from ≡ Some start → next.from ≡ None → fault ≡ Run number NoFrom → IsApart joined next number fault
  first_is_without : (at : ℕ) → joined.from ≡ None → next.from ≡ Some at → fault ≡ Run 0 NoFrom → IsApart joined next number fault
