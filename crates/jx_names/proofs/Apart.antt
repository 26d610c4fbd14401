-- Names whose keys are apart.
use Rattle.std.proofs.Common.{◌≡◌, ℕ, zero, suc, ◌+◌, ◌<◌, ◌⊎◌, List, length, map, get_or, take, Bool, true, false, refl, sym, ap, ◌∙◌, inl, inr, arith}
use Rattle.std.specs.Prelude.{IsTrue, not}
use Rattle.std.proofs.lemmas.List.{get_or-map, get_or-take, length-take-le}
use Rattle.jx_names.specs.declared.name_bytes.Name.{Name}
use Rattle.jx_names.specs.inside.ApartKeys.{IsNew, key_of}

abbrev pub no_name : Name
no_name = record { at = 0; from = 0; to = 0; key = 0 }

-- ---- one name more

pub last_or : (k at : ℕ) → k < at + 1 → (k < at) ⊎ (k ≡ at)
last_or zero zero h = inr refl
last_or zero (suc n) h = inl (omega arith)
last_or (suc k) zero h = absurd (omega (arith, h))
last_or (suc k) (suc n) h = elim (last_or k n (omega (arith, h))) [ inl l ↦ inl (omega (arith, l)) | inr e ↦ inr (ap suc e) ]

pub no_key_yet : (names : List Name) (key at : ℕ) → ((k : ℕ) → k < at → get_or (map key_of names) k 0 ≡ key → ⊥) → at < length names → ((get_or names at no_name).key ≡ key → ⊥)
    → (k : ℕ) → k < at + 1 → get_or (map key_of names) k 0 ≡ key → ⊥
no_key_yet names key at none within other k low e = pick (last_or k at low)
  where
    pick : (k < at) ⊎ (k ≡ at) → ⊥
    pick (inl l) = none k l e
    pick (inr same) = other (sym (get_or-map key_of names at no_name 0 within) ∙ ap (λ (i : ℕ). get_or (map key_of names) i 0) (sym same) ∙ e)

-- a key that none of the names before it has
pub new_by_keys : (names part : List Name) (at : ℕ) → part ≡ take at names → at < length names
    → ((k : ℕ) → k < length part → get_or (map key_of part) k 0 ≡ (get_or names at no_name).key → ⊥) → IsNew (map key_of names) at
new_by_keys names part at is within none k low e =
    let long : length part ≡ at = ap (λ (xs : List Name). length xs) is ∙ length-take-le at names (omega (arith, within)) in
    let here : k < length part = omega (arith, low, long) in
    let there : k < length names = omega (arith, low, within) in
    none k here
    (get_or-map key_of part k no_name 0 here
    ∙ ap (λ (xs : List Name). key_of (get_or xs k no_name)) is
    ∙ ap key_of (get_or-take at names k no_name low)
    ∙ sym (get_or-map key_of names k no_name 0 there)
    ∙ e
    ∙ get_or-map key_of names at no_name 0 within)

pub one_new : (keys : List ℕ) (at : ℕ) → ((j : ℕ) → j < at → IsNew keys j) → IsNew keys at → (j : ℕ) → j < at + 1 → IsNew keys j
one_new keys at before here j low = pick (last_or j at low)
  where
    pick : (j < at) ⊎ (j ≡ at) → IsNew keys j
    pick (inl l) = before j l
    pick (inr same) = λ k lt e. here k (omega (arith, lt, same)) (e ∙ ap (λ (i : ℕ). get_or keys i 0) same)

pub not_true : (b : Bool) → IsTrue (not b) → b ≡ false
not_true false h = refl
not_true true h = absurd cc
