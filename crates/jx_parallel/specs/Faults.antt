-- Why there is no verdict.
use Rattle.std.specs.Prelude.{⊤}
use Rattle.jx_parallel.specs.declared.check_fault.CheckFault.{CheckFault}
use Rattle.jx_parallel.specs.declared.check_fault.CheckFault.TheVariants.{Memory, Read}

-- if a read failed, it failed for such a reason
abbrev pub ReadFailsBy : {E : Type 0} → (E → Type 0) → CheckFault E → Type 0
ReadFailsBy may_fail Memory = ⊤
ReadFailsBy may_fail (Read reason) = may_fail reason

-- if a read failed, this holds
abbrev pub IfRead : {E : Type 0} → Type 0 → CheckFault E → Type 0
IfRead holds Memory = ⊤
IfRead holds (Read reason) = holds
