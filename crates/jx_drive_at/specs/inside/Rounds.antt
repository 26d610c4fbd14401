-- How what is due is written round by round, by what a reporter has taken and by what waits.
use Rattle.std.specs.Prelude.{◌≡◌, ℕ, List, [], Bool, false, Option}
use Rattle.std.specs.Io.KnownBytes.{Appends}
use Rattle.jx_drive.specs.Reports.{Dues}
use Rattle.jx_parallel.specs.Offsets.{IsContent, StandThere}
use Rattle.jx_drive_at.specs.declared.report_at_fault.ReportAtFault.{ReportAtFault}
use Rattle.jx_drive_at.specs.declared.report_at_fault.ReportAtFault.TheVariants.{Memory, Read, Write}
use Rattle.jx_drive_at.specs.ReportsAt.{WroteDueAt, WroteInPartAt}

-- the bytes that were taken, and those that were written of them
abbrev pub Takings : Type 0 → Type 1
Takings T = List ℕ → List ℕ → T → Type 0

-- a beginning of the content was taken, or all of it if no more follows; this was written of it before what waits
pub record IsTakenAt {T : Type 0} (HasTaken : Takings T) (known : Option (List ℕ)) (more : Bool) (written grown : Option (List ℕ)) (t : T) : Type 0 where
  pub text : List ℕ
  pub given : List ℕ
  pub there : StandThere known 0 text
  pub whole : more ≡ false → IsContent known text
  pub wrote : Appends written grown given
  pub taken : HasTaken text given t

-- the same where nothing waits
pub record IsWrittenAt {T : Type 0} (HasTaken : Takings T) (ready told : T → List ℕ) (known : Option (List ℕ)) (more : Bool) (written grown : Option (List ℕ)) (t : T) : Type 0 where
  pub taken : IsTakenAt HasTaken known more written grown t
  pub none_wait : ready t ≡ []
  pub none_told : told t ≡ []

-- the output that a fault leaves
abbrev pub AfterFault : {E : Type 0} → Dues → Dues → Option (List ℕ) → (E → Type 0) → Option (List ℕ) → Option (List ℕ) → ReportAtFault E → Type 0
AfterFault IsDue IsBegun known may_fail written grown Memory = WroteDueAt IsDue known written grown
AfterFault IsDue IsBegun known may_fail written grown (Read reason) = may_fail reason × WroteDueAt IsDue known written grown
AfterFault IsDue IsBegun known may_fail written grown Write = WroteInPartAt IsBegun known written grown
