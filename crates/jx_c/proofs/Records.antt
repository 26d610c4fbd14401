-- Records in buffers.
use Rattle.std.proofs.Common.{◌≡◌, ℕ, ◌+◌, ◌<◌, ◌≤◌, List, ◌++◌, length, drop, Option, sym, subst, ap, ◌∙◌, inl, inr, arith}
use Rattle.std.specs.Prelude.{◌⊎◌, unwrap_or, Ok, Err}
use Rattle.jx_portion.specs.declared.fault.DecodeFault.{DecodeFault}
use Rattle.jx_portion.specs.declared.fault.DecodeFault.TheVariants as refused
use Rattle.jx_portion.specs.declared.fault.RunFault.{RunFault}
use Rattle.jx_portion.specs.Fields.{RunFields}
use Rattle.jx_portion.specs.Portion.{end_of, start_of, IsAnswer, IsPortion, IsRecord, IsSaidBy, IsSpelt, PortionValue}
use Rattle.jx_portion.specs.Reading.{IsSealed}
use Rattle.jx_c.specs.Runs.{for_left, for_right, joined, left_no_run, no_memory, no_memory_there, no_room, no_run, right_no_run, AreNeighbours, IsJoinStatus, IsTooLong, IsVerdictStatus, IsWritten}

pub written : (bytes : List ℕ) (from : Option ℕ) (depth : ℕ) (items run old new : List ℕ) (size : ℕ) → run ≡ items → IsRecord bytes from depth items → size ≡ length run → (length run ≤ length old) × (new ≡ run ++ drop (length run) old)
    → IsWritten bytes from depth old new size
written bytes from depth items run old new size same is long put =
    record {
      run = run;
      is = subst (IsRecord bytes from depth) (sym same) is;
      size_is = long;
      fits = omega (arith, long, put.0);
      written = put.1 ∙ ap (λ n. run ++ drop n old) (sym long);
    }

pub too_long : (bytes : List ℕ) (from : Option ℕ) (depth : ℕ) (items run buffer : List ℕ) (size : ℕ) → run ≡ items → IsRecord bytes from depth items → size ≡ length run → length buffer < length run
    → IsTooLong bytes from depth buffer size
too_long bytes from depth items run buffer size same is long above =
    record { run = run; is = subst (IsRecord bytes from depth) (sym same) is; size_is = long; long = omega (arith, long, above) }

pub place_of : (bytes : List ℕ) (from : Option ℕ) (depth : ℕ) (p : PortionValue) → IsPortion bytes from depth p → p.run.start ≡ 0 → (start_of p ≡ unwrap_or from 0) × (end_of p ≡ unwrap_or from 0 + length bytes)
place_of bytes from depth p is zero =
    let start : start_of p ≡ unwrap_or from 0 = ap (λ (f : Option ℕ). unwrap_or f 0) is.from_is in
    (start, omega (arith, start, is.run_is.long, zero))

-- ---- statuses

-- what is refused for its bytes is no run
pub no_run_there : (bytes : List ℕ) (told : DecodeFault) (fault : RunFault) → told ≡ refused.Fault fault → ((d : ℕ) (r : RunFields) → IsSpelt d r bytes → IsAnswer (Err told) (Ok (d, r)))
    → (p : PortionValue) → IsSaidBy bytes p → ⊥
no_run_there bytes told fault is only p said =
    let answer : IsAnswer (Err (refused.Fault fault)) (Ok (said.0, said.1)) = subst (λ (x : DecodeFault). IsAnswer (Err x) (Ok (said.0, said.1))) is (only said.0 said.1 said.3) in
    answer.1 said.3.run_is

pub left_lost : (left right : List ℕ) (status : ℕ) → (status ≡ 1) ⊎ (status ≡ 12) → (status ≡ 1 → IsSealed left) → (status ≡ 12 → (p : PortionValue) → IsSaidBy left p → ⊥) → IsJoinStatus left right status
left_lost left right status (inl e) sealed none = subst (IsJoinStatus left right) (sym e) (no_memory (for_left (sealed e)))
left_lost left right status (inr e) sealed none = subst (IsJoinStatus left right) (sym e) (left_no_run (none e))

pub right_lost : (left right : List ℕ) (status : ℕ) (first : PortionValue) → IsSaidBy left first → (status ≡ 1) ⊎ (status ≡ 12) → (status ≡ 1 → IsSealed right) → (status ≡ 12 → (p : PortionValue) → IsSaidBy right p → ⊥)
    → IsJoinStatus left right status
right_lost left right status first said (inl e) sealed none = subst (IsJoinStatus left right) (sym e) (no_memory (for_right first said (sealed e)))
right_lost left right status first said (inr e) sealed none = subst (IsJoinStatus left right) (sym e) (right_no_run (none e))

pub put_in : (left right : List ℕ) (status : ℕ) → AreNeighbours left right → (status ≡ 0) ⊎ (status ≡ 11) → IsJoinStatus left right status
put_in left right status are (inl e) = subst (IsJoinStatus left right) (sym e) (joined are)
put_in left right status are (inr e) = subst (IsJoinStatus left right) (sym e) (no_room are)

pub verdict_lost : (run : List ℕ) (start end status : ℕ) → (status ≡ 1) ⊎ (status ≡ 12) → (status ≡ 1 → IsSealed run) → (status ≡ 12 → (p : PortionValue) → IsSaidBy run p → ⊥)
    → IsVerdictStatus run start end status
verdict_lost run start end status (inl e) sealed none = subst (IsVerdictStatus run start end) (sym e) (no_memory_there (sealed e))
verdict_lost run start end status (inr e) sealed none = subst (IsVerdictStatus run start end) (sym e) (no_run (none e))
