-- The least number of which something holds.
use Rattle.std.proofs.Common.{◌≡◌, ℕ, zero, suc, ◌≤◌, ◌⊎◌, Option, None, Some, min, refl, ap, subst, inl, inr, arith}
use Rattle.jx_index.specs.Repeats.{IsLeast}
use Rattle.jx_index.specs.inside.Ties.{earlier_of}

pub least_same : (P Q : ℕ → Type 0) → ((n : ℕ) → P n → Q n) → ((n : ℕ) → Q n → P n) → (r : Option ℕ) → IsLeast P r → IsLeast Q r
least_same P Q to of None h = λ n q. h n (of n q)
least_same P Q to of (Some n) h = (to n h.0, λ k q. h.1 k (of k q))

-- the one number, if there is one
pub least_one : (x : Option ℕ) → IsLeast (λ n. x ≡ Some n) x
least_one None = λ n e. absurd (cc)
least_one (Some m) = (refl, λ k e. (let same : m ≡ k = cc in omega (arith, same)))

pub least_none : (P : ℕ → Type 0) → ((n : ℕ) → P n → ⊥) → IsLeast P None
least_none P h = h

lesser : (P Q : ℕ → Type 0) (m n : ℕ) → IsLeast P (Some m) → IsLeast Q (Some n) → (m ≤ n) ⊎ (n ≤ m) → IsLeast (λ k. P k ⊎ Q k) (Some (min m n))
lesser P Q m n h q (inl le) =
    let e : m ≡ min m n = omega (arith, le) in
    subst (λ (k : ℕ). IsLeast (λ k. P k ⊎ Q k) (Some k)) e
    (inl h.0, λ k auto. elim auto [ inl x ↦ h.1 k x | inr x ↦ (let low = q.1 k x in omega (arith, le, low)) ])
lesser P Q m n h q (inr le) =
    let e : n ≡ min m n = omega (arith, le) in
    subst (λ (k : ℕ). IsLeast (λ k. P k ⊎ Q k) (Some k)) e
    (inr q.0, λ k auto. elim auto [ inl x ↦ (let low = h.1 k x in omega (arith, le, low)) | inr x ↦ q.1 k x ])

le_or : (a b : ℕ) → (a ≤ b) ⊎ (b ≤ a)
le_or zero b = inl (omega arith)
le_or (suc a) zero = inr (omega arith)
le_or (suc a) (suc b) = elim (le_or a b) [ inl h ↦ inl (omega (arith, h)) | inr h ↦ inr (omega (arith, h)) ]

-- of the one or the other
pub least_either : (P Q : ℕ → Type 0) (a b : Option ℕ) → IsLeast P a → IsLeast Q b → IsLeast (λ n. P n ⊎ Q n) (earlier_of a b)
least_either P Q None None h q = λ n auto. elim auto [ inl x ↦ h n x | inr x ↦ q n x ]
least_either P Q None (Some k) h q = (inr q.0, λ n auto. elim auto [ inl x ↦ absurd (h n x) | inr x ↦ q.1 n x ])
least_either P Q (Some m) None h q = (inl h.0, λ n auto. elim auto [ inl x ↦ h.1 n x | inr x ↦ absurd (q n x) ])
least_either P Q (Some m) (Some n) h q = lesser P Q m n h q (le_or m n)

pub earlier_assoc : (a b c : Option ℕ) → earlier_of (earlier_of a b) c ≡ earlier_of a (earlier_of b c)
earlier_assoc None b c = refl
earlier_assoc (Some m) None c = refl
earlier_assoc (Some m) (Some n) None = refl
earlier_assoc (Some m) (Some n) (Some k) = ap (λ (i : ℕ). let o : Option ℕ = Some i in o) (let e : min (min m n) k ≡ min m (min n k) = omega arith in e)

pub earlier_none : (a : Option ℕ) → earlier_of a None ≡ a
earlier_none None = refl
earlier_none (Some m) = refl
