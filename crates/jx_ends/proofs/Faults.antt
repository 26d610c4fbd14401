-- Faults that are handed on.
use Rattle.std.specs.Prelude.{Ok, Err, Result}
use Rattle.std.proofs.Common.{◌≡◌, sym, ap, ◌∙◌}
use Rattle.jx_ends.specs.declared.report_fault.ReportFault.{ReportFault}

fault_or : {T : Type 0} → Result T ReportFault → ReportFault → ReportFault
fault_or (Ok x) d = d
fault_or (Err e) d = e

pub fault_is : {T : Type 0} (r : Result T ReportFault) (y f : ReportFault) → r ≡ Err y → r ≡ Err f → y ≡ f
unfolding fault_or
fault_is r y f a b = ap (λ q. fault_or q y) (sym a ∙ b)

-- a fault that is handed on is the same
pub same_fault : {T U : Type 0} (q : Result T ReportFault) (r : Result U ReportFault) (x y f : ReportFault) → q ≡ Err x → r ≡ Err y → y ≡ x → r ≡ Err f → q ≡ Err f
same_fault q r x y f a b e c = a ∙ ap Err (sym e ∙ fault_is r y f b c)

-- and the other way round
pub fault_back : {T U : Type 0} (q : Result T ReportFault) (r : Result U ReportFault) (x y f : ReportFault) → q ≡ Err x → r ≡ Err y → y ≡ x → q ≡ Err f → r ≡ Err f
fault_back q r x y f a b e c = b ∙ ap Err (e ∙ fault_is q x f a c)
