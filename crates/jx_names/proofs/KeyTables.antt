-- A key that is put into a table of keys.
use Rattle.std.proofs.Common.{◌≡◌, ℕ, zero, suc, ◌+◌, ◌<◌, ◌/◌, ◌^◌, ◌⊎◌, List, length, get_or, Bool, true, false, refl, sym, ap, subst, ◌∙◌, inl, inr, arith}
use Rattle.std.specs.Prelude.{◌==◌, ◌||◌, slice_index, slice_set}
use Rattle.std.specs.Slice.Scan.{IsFirstPlace}
use Rattle.std.proofs.lemmas.Bool.Decides.{nat_tests}
use Rattle.std.proofs.lemmas.List.{get_or-set_other, get_or-set_same, length-set}
use Rattle.jx_names.specs.inside.ApartKeys.{IsNew, StandsIn}
use Rattle.jx_names.proofs.Apart.{last_or, one_new}

-- a place that is free, or has the key
abbrev pub ends_at : List ℕ → ℕ → ℕ → Bool
ends_at table key k = (slice_index table k == 0) || (slice_index table k == key)

order : (a b : ℕ) → (a < b) ⊎ (a ≡ b) ⊎ (b < a)
order zero zero = inr (inl refl)
order zero (suc b) = inl (omega arith)
order (suc a) zero = inr (inr (omega arith))
order (suc a) (suc b) = pick (order a b)
  where
    pick : (a < b) ⊎ (a ≡ b) ⊎ (b < a) → (suc a < suc b) ⊎ (suc a ≡ suc b) ⊎ (suc b < suc a)
    pick (inl l) = inl (omega (arith, l))
    pick (inr (inl e)) = inr (inl (ap suc e))
    pick (inr (inr g)) = inr (inr (omega (arith, g)))

free_ends : (x key : ℕ) → ((x == 0) || (x == key)) ≡ false → x ≡ 0 → ⊥
free_ends x key h e =
    let z : (x == 0) ≡ true = grind (arith, nat_tests, e) in
    let t : true ≡ false = sym (ap (λ (b : Bool). b || (x == key)) z) ∙ h in absurd cc

key_ends : (x key : ℕ) → ((x == 0) || (x == key)) ≡ false → x ≡ key → ⊥
key_ends x key h e =
    let k : (x == key) ≡ true = grind (arith, nat_tests, e) in
    pick (x == 0) h k
  where
    pick : (b : Bool) → (b || (x == key)) ≡ false → (x == key) ≡ true → ⊥
    pick true h k = absurd cc
    pick false h k = let t : true ≡ false = sym k ∙ h in absurd cc

module _ (table : List ℕ) (shift key place : ℕ) (first : IsFirstPlace (ends_at table key) (key / 2 ^ shift) (key / 2 ^ shift + 32) place) (within : place < length table) (free : slice_index table place ≡ 0)
    (some : key ≡ 0 → ⊥) where
  pub key_new : StandsIn table shift key → ⊥
  key_new s = pick (order s.place place)
    where
      pick : (s.place < place) ⊎ (s.place ≡ place) ⊎ (place < s.place) → ⊥
      pick (inl l) = key_ends (slice_index table s.place) key (first.before s.place s.low l) s.is
      pick (inr (inl e)) = some (sym s.is ∙ ap (slice_index table) e ∙ free)
      pick (inr (inr g)) = s.before place first.low g free

  abbrev after : List ℕ
  after = slice_set table place key

  there : slice_index after place ≡ key
  there = get_or-set_same table place key 0 within

  elsewhere : (k : ℕ) → (k ≡ place → ⊥) → slice_index after k ≡ slice_index table k
  elsewhere k other = get_or-set_other table place k key 0 other

  taken : (k : ℕ) → (slice_index table k ≡ 0 → ⊥) → slice_index after k ≡ 0 → ⊥
  taken k was e = was (sym (elsewhere k (λ same. was (ap (slice_index table) same ∙ free))) ∙ e)

  pub key_put : StandsIn after shift key
  key_put = record {
    place = place;
    low = first.low;
    within = subst (λ (n : ℕ). place < n) (sym (length-set table place key)) within;
    is = there;
    some = some;
    before = λ k low lt. taken k (free_ends (slice_index table k) key (first.before k low lt));
  }

  pub key_kept : (other : ℕ) → StandsIn table shift other → StandsIn after shift other
  key_kept other s = record {
    place = s.place;
    low = s.low;
    within = subst (λ (n : ℕ). s.place < n) (sym (length-set table place key)) s.within;
    is = elsewhere s.place (λ same. s.some (sym s.is ∙ ap (slice_index table) same ∙ free)) ∙ s.is;
    some = s.some;
    before = λ k low lt. taken k (s.before k low lt);
  }

-- ---- names, one after another

module _ (keys table : List ℕ) (shift at : ℕ) (before : (j : ℕ) → j < at → IsNew keys j) (stand : (k : ℕ) → k < at → StandsIn table shift (get_or keys k 0)) where
  pub is_new : (StandsIn table shift (get_or keys at 0) → ⊥) → IsNew keys at
  is_new other = λ k low e. other (subst (StandsIn table shift) e (stand k low))

  pub all_new : (StandsIn table shift (get_or keys at 0) → ⊥) → (j : ℕ) → j < at + 1 → IsNew keys j
  all_new other = one_new keys at before (is_new other)

  pub all_stand : (next : List ℕ) → StandsIn next shift (get_or keys at 0) → ((other : ℕ) → StandsIn table shift other → StandsIn next shift other)
      → (k : ℕ) → k < at + 1 → StandsIn next shift (get_or keys k 0)
  all_stand next here kept k low = pick (last_or k at low)
    where
      pick : (k < at) ⊎ (k ≡ at) → StandsIn next shift (get_or keys k 0)
      pick (inl l) = kept (get_or keys k 0) (stand k l)
      pick (inr same) = subst (λ (i : ℕ). StandsIn next shift (get_or keys i 0)) (sym same) here
