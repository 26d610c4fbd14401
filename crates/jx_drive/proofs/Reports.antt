-- Reports by weaker promises, and what a fault leaves.
use Rattle.std.specs.Prelude.{◌≢◌, ℕ, List, [], Option, Result, Ok, Err, IfErr, IsErrOf, OnErr, refl}
use Rattle.std.proofs.KnownBytes.{Consumes-nil, Appends-nil}
use Rattle.jx_ends.specs.declared.report_fault.ReportFault.{ReportFault}
use Rattle.jx_ends.specs.declared.report_fault.ReportFault.TheVariants.{Read, Write, Memory, Pieces}
use Rattle.jx_drive.specs.Reports.{Dues, WroteDue, WroteInPart, WroteLines}

abbrev Known : Type 0
Known = Option (List ℕ)

-- nothing was read yet
pub lines_at_start : (IsDue : Dues) (u w : Known) → IsDue [] [] → WroteLines IsDue u u w w
lines_at_start IsDue u w due = record { text = []; more = []; output = []; read = Consumes-nil u; due = due; wrote = Appends-nil w }

module _ (A B : Dues) (by : (text output : List ℕ) → A text output → B text output) (u n w x : Known) where
  pub due_weaker : WroteDue A u n w x → WroteDue B u n w x
  due_weaker h = record { text = h.text; output = h.output; read = h.read; due = by h.text h.output h.due; wrote = h.wrote }

  pub lines_weaker : WroteLines A u n w x → WroteLines B u n w x
  lines_weaker h = record { text = h.text; more = h.more; output = h.output; read = h.read; due = by h.text h.output h.due; wrote = h.wrote }

  pub part_weaker : WroteInPart A u n w x → WroteInPart B u n w x
  part_weaker h = record { text = h.text; output = h.output; read = h.read; of = by h.text h.output h.of; wrote = h.wrote }

-- what each fault but one leaves is so after every fault
pub after_faults : {T : Type 0} (r : Result T ReportFault) (P : Type 0) → (IsErrOf r Read → P) → (IsErrOf r Memory → P) → (IsErrOf r Write → P) → IfErr r (λ fault. fault ≢ Pieces) → OnErr r P
after_faults (Ok t) P read memory write uncut = tt
after_faults (Err Read) P read memory write uncut = read refl
after_faults (Err Memory) P read memory write uncut = memory refl
after_faults (Err Write) P read memory write uncut = write refl
after_faults (Err Pieces) P read memory write uncut = absurd (uncut refl)
