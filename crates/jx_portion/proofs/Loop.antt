-- Reading and writing items one after the other, as loops do.
use Rattle.std.proofs.Common.{◌≡◌, ℕ, suc, ◌-◌, ◌+◌, ◌≤◌, ◌<◌, List, [], ◌∷◌, ◌++◌, Result, Ok, Err, refl, sym, ap, ◌∙◌, append_assoc, arith}
use Rattle.std.proofs.lemmas.List.{append-nil}
use Rattle.jx_portion.specs.declared.fault.RunFault.{RunFault}
use Rattle.jx_portion.specs.declared.fault.DecodeFault.{DecodeFault}
use Rattle.jx_portion.specs.declared.fault.DecodeFault.TheVariants as refused
use Rattle.jx_portion.specs.Reading.{◌>>=◌, Fails, many_at}

-- what was read before, and what is still read
abbrev pub with_front : {A : Type 0} → List A → Result (List A × List ℕ) RunFault → Result (List A × List ℕ) RunFault
with_front front reading = reading >>= λ x. Ok (front ++ x.0, x.1)

regroup : {A : Type 0} (front : List A) (n : A) (reading : Result (List A × List ℕ) RunFault) → with_front front (reading >>= λ x. Ok (n ∷ x.0, x.1)) ≡ with_front (front ++ n ∷ []) reading
regroup {A = A} front n (Ok x) = ap (λ (ns : List A). Ok (ns, x.1)) (simp append_assoc)
regroup {A = A} front n (Err f) = refl

pub goes_on : {A : Type 0} (at : List ℕ → Result (A × List ℕ) RunFault) (front : List A) (count i : ℕ) (bytes : List ℕ) (n : A) (after : List ℕ) (total : Result (List A × List ℕ) RunFault) → i < count → at bytes ≡ Ok (n, after)
    → with_front front (many_at at (count - i) bytes) ≡ total → with_front (front ++ n ∷ []) (many_at at (count - (i + 1)) after) ≡ total
unfolding many_at
goes_on at front count i bytes n after total lt h so_far =
    let k : count - i ≡ suc (count - (i + 1)) = omega arith in
    let one : with_front front (many_at at (count - i) bytes) ≡ with_front (front ++ n ∷ []) (many_at at (count - (i + 1)) after) = rw (k, h) (regroup front n (many_at at (count - (i + 1)) after)) in
    sym one ∙ so_far

pub ends : {A : Type 0} (at : List ℕ → Result (A × List ℕ) RunFault) (e : DecodeFault) (front : List A) (count i : ℕ) (bytes : List ℕ) (total : Result (List A × List ℕ) RunFault) → i < count → Fails e (at bytes)
    → with_front front (many_at at (count - i) bytes) ≡ total → Fails e total
unfolding many_at
ends at refused.Memory front count i bytes total lt h so_far = tt
ends at (refused.Fault f) front count i bytes total lt h so_far =
    let k : count - i ≡ suc (count - (i + 1)) = omega arith in
    let one : with_front front (many_at at (count - i) bytes) ≡ Err f = rw (k, h) refl in
    sym so_far ∙ one

pub is_done : {A : Type 0} (at : List ℕ → Result (A × List ℕ) RunFault) (front : List A) (count i : ℕ) (bytes : List ℕ) (total : Result (List A × List ℕ) RunFault) → count ≤ i → with_front front (many_at at (count - i) bytes) ≡ total → total ≡ Ok (front, bytes)
unfolding many_at
is_done {A = A} at front count i bytes total le so_far =
    let k : count - i ≡ 0 = omega arith in
    let one : with_front front (many_at at (count - i) bytes) ≡ Ok (front, bytes) = rw k (ap (λ (ns : List A). Ok (ns, bytes)) (append-nil front)) in
    sym so_far ∙ one
