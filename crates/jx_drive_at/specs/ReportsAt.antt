-- A report on bytes that are read at offsets, by what is due of an input, and by the whole output for it.
use Rattle.std.specs.Prelude.{ℕ, List, ◌++◌, Option, ⊤}
use Rattle.std.specs.Io.KnownBytes.{Appends}
use Rattle.jx_ends.specs.declared.exit.Exit.{Exit}
use Rattle.jx_ends.specs.Ends.{AppendsBeginning}
use Rattle.jx_drive.specs.Reports.{Dues, Outputs}
use Rattle.jx_parallel.specs.Offsets.{IsContent, StandThere}
use Rattle.jx_parallel.specs.Parts.{Readings}
use Rattle.jx_drive_at.specs.declared.report_at_fault.ReportAtFault.{ReportAtFault}
use Rattle.jx_drive_at.specs.declared.report_at_fault.ReportAtFault.TheVariants.{Memory, Read, Write}

-- the writer got the whole output for an input; where the content is known, that is the input
pub record ReportsAllAt (IsOutput : Outputs) (known written grown : Option (List ℕ)) (exit : Exit) : Type 0 where
  pub text : List ℕ
  pub output : List ℕ
  pub whole : IsContent known text
  pub answer : IsOutput text output exit
  pub wrote : Appends written grown output

-- the writer got what is due of a beginning of the content
pub record WroteDueAt (IsDue : Dues) (known written grown : Option (List ℕ)) : Type 0 where
  pub text : List ℕ
  pub output : List ℕ
  pub there : StandThere known 0 text
  pub due : IsDue text output
  pub wrote : Appends written grown output

-- the writer got a beginning of an output for a beginning of the content, and not all
pub record WroteInPartAt (IsBegun : Dues) (known written grown : Option (List ℕ)) : Type 0 where
  pub text : List ℕ
  pub output : List ℕ
  pub there : StandThere known 0 text
  pub of : IsBegun text output
  pub wrote : AppendsBeginning written grown output

-- if a read failed, it failed for such a reason
abbrev pub FailsBy : {E : Type 0} → (E → Type 0) → ReportAtFault E → Type 0
FailsBy may_fail Memory = ⊤
FailsBy may_fail (Read reason) = may_fail reason
FailsBy may_fail Write = ⊤

-- a reporter has read all that it has taken, and takes all that it reads after that
pub record ReadsOn {Given Reporter : Type 0} (has_read : Readings Given Reporter) (HasTaken : List ℕ → Reporter → Type 0) (bytes : List ℕ) (old : Reporter) : Type 0 where
  pub given : Given
  pub read : has_read bytes given old
  pub takes : (more : List ℕ) (new : Reporter) → has_read (bytes ++ more) given new → HasTaken (bytes ++ more) new
