-- Names that are alike, one by one, repeat at the same offsets.
use Rattle.std.proofs.Common.{◌≡◌, ℕ, zero, suc, List, [], ◌∷◌, drop, Bool, true, false, cond, Option, refl, sym, ap, subst, ◌∙◌, inl, inr}
use Rattle.std.specs.Prelude.{filter}
use Rattle.std.specs.Ordering.{nat_cmp, is_eq}
use Rattle.std.specs.Cmp.Lexicographic.{slice_cmp}
use Rattle.jx_index.specs.Repeats.{IsAmong, IsLeast, IsRepeated, has_units}
use Rattle.std.proofs.lemmas.Map.Text.{is_eq-slice_cmp}
use Rattle.std.proofs.lemmas.Slice.Eq.{bytes_eq-Decides}
use Rattle.jx_index.proofs.Leasts.{least_same}
use Rattle.jx_index.proofs.NameKeys.{same_units}

module _ {A B : Type 0} (f : A → List ℕ) (g : B → List ℕ) (p : A → Option ℕ) (q : B → Option ℕ) where
  -- the same units, and the same start
  abbrev pub AreAlike : List A → List B → Type 0
  AreAlike [] [] = Unit {0}
  AreAlike (x ∷ xs) (y ∷ ys) = ((f x ≡ g y) × (p x ≡ q y)) × AreAlike xs ys
  AreAlike [] (y ∷ ys) = ⊥
  AreAlike (x ∷ xs) [] = ⊥

  pub alike_drop : (k : ℕ) (xs : List A) (ys : List B) → AreAlike xs ys → AreAlike (drop k xs) (drop k ys)
  alike_drop zero xs ys h = h
  alike_drop (suc k) [] [] h = tt
  alike_drop (suc k) [] (y ∷ ys) h = absurd h
  alike_drop (suc k) (x ∷ xs) [] h = absurd h
  alike_drop (suc k) (x ∷ xs) (y ∷ ys) h = alike_drop k xs ys h.1

  alike_filter : (units : List ℕ) (xs : List A) (ys : List B) → AreAlike xs ys → AreAlike (filter (has_units f units) xs) (filter (has_units g units) ys)
  alike_filter units [] [] h = tt
  alike_filter units [] (y ∷ ys) h = absurd h
  alike_filter units (x ∷ xs) [] h = absurd h
  alike_filter units (x ∷ xs) (y ∷ ys) h =
      subst (λ (c : Bool). AreAlike (cond c (x ∷ filter (has_units f units) xs) (filter (has_units f units) xs)) (filter (has_units g units) (y ∷ ys)))
      (sym (ap (λ (us : List ℕ). is_eq (slice_cmp nat_cmp us units)) h.0.0)) (pick (has_units g units y) (alike_filter units xs ys h.1))
    where
      pick : (c : Bool) → AreAlike (filter (has_units f units) xs) (filter (has_units g units) ys)
          → AreAlike (cond c (x ∷ filter (has_units f units) xs) (filter (has_units f units) xs)) (cond c (y ∷ filter (has_units g units) ys) (filter (has_units g units) ys))
      pick true rec = (h.0, rec)
      pick false rec = rec

  other_among : (x : A) (xs : List A) (ys : List B) → AreAlike xs ys → IsAmong x xs → (y : B) × (p x ≡ q y) × IsAmong y ys
  other_among x [] ys h k = absurd k
  other_among x (a ∷ xs) [] h k = absurd h
  other_among x (a ∷ xs) (y ∷ ys) h (inl e) = (y, ap p (sym e) ∙ h.0.1, inl refl)
  other_among x (a ∷ xs) (y ∷ ys) h (inr k) = let rec = other_among x xs ys h.1 k in (rec.0, rec.1, inr rec.2)

  repeated_alike : (xs : List A) (ys : List B) → AreAlike xs ys → (at : ℕ) → IsRepeated f p xs at → IsRepeated g q ys at
  repeated_alike xs ys h at r =
      let m = other_among r.name _ _ (alike_drop 1 _ _ (alike_filter r.units xs ys h)) r.behind in
      record { units = r.units; name = m.0; behind = m.2; starts = sym m.1 ∙ r.starts }

alike_sym : {A B : Type 0} (f : A → List ℕ) (g : B → List ℕ) (p : A → Option ℕ) (q : B → Option ℕ) (xs : List A) (ys : List B) → AreAlike f g p q xs ys → AreAlike g f q p ys xs
alike_sym f g p q [] [] h = tt
alike_sym f g p q [] (y ∷ ys) h = absurd h
alike_sym f g p q (x ∷ xs) [] h = absurd h
alike_sym f g p q (x ∷ xs) (y ∷ ys) h = ((sym h.0.0, sym h.0.1), alike_sym f g p q xs ys h.1)

pub least_alike : {A B : Type 0} (f : A → List ℕ) (g : B → List ℕ) (p : A → Option ℕ) (q : B → Option ℕ) (xs : List A) (ys : List B) (r : Option ℕ) → AreAlike f g p q xs ys
    → IsLeast (IsRepeated g q ys) r → IsLeast (IsRepeated f p xs) r
least_alike f g p q xs ys r h least =
    least_same (IsRepeated g q ys) (IsRepeated f p xs) (repeated_alike g f q p ys xs (alike_sym f g p q xs ys h)) (repeated_alike f g p q xs ys h) r least

-- a name that a test keeps passes it
module _ {A : Type 0} (test : A → Bool) where
  kept_passes : (x : A) (xs : List A) → IsAmong x (filter test xs) → test x ≡ true
  kept_passes x [] h = absurd h
  kept_passes x (y ∷ ys) h = pick (test y) refl h (λ k. kept_passes x ys k)
    where
      pick : (c : Bool) → test y ≡ c → IsAmong x (cond c (y ∷ filter test ys) (filter test ys)) → (IsAmong x (filter test ys) → test x ≡ true) → test x ≡ true
      pick true e (inl same) rec = ap test (sym same) ∙ e
      pick true e (inr k) rec = rec k
      pick false e k rec = rec k

  among_drop : (x : A) (xs : List A) → IsAmong x (drop 1 xs) → IsAmong x xs
  among_drop x [] h = absurd h
  among_drop x (y ∷ ys) h = inr h

  among_passes : (x : A) (xs : List A) → IsAmong x (drop 1 (filter test xs)) → test x ≡ true
  among_passes x xs h = kept_passes x xs (among_drop x (filter test xs) h)

-- ---- names by other lists, which are equal where theirs are

module _ {A : Type 0} (spell : List ℕ → List ℕ) (same : (us vs : List ℕ) → spell us ≡ spell vs → us ≡ vs) (f : A → List ℕ) (p : A → Option ℕ) where
  equal_of : (us vs : List ℕ) → us ≡ vs → is_eq (slice_cmp nat_cmp us vs) ≡ true
  equal_of us vs e = is_eq-slice_cmp us vs ∙ (bytes_eq-Decides us vs).1 e

  same_tests : (us vs : List ℕ) → is_eq (slice_cmp nat_cmp (spell us) (spell vs)) ≡ is_eq (slice_cmp nat_cmp us vs)
  same_tests us vs = pick (is_eq (slice_cmp nat_cmp (spell us) (spell vs))) refl (is_eq (slice_cmp nat_cmp us vs)) refl
    where
      pick : (c : Bool) → is_eq (slice_cmp nat_cmp (spell us) (spell vs)) ≡ c → (d : Bool) → is_eq (slice_cmp nat_cmp us vs) ≡ d → c ≡ d
      pick true a true b = refl
      pick true a false b = sym (equal_of us vs (same us vs (same_units (spell us) (spell vs) a))) ∙ b
      pick false a true b = sym a ∙ equal_of (spell us) (spell vs) (ap spell (same_units us vs b))
      pick false a false b = refl

  same_filter : (units : List ℕ) (xs : List A) → filter (has_units (λ (x : A). spell (f x)) (spell units)) xs ≡ filter (has_units f units) xs
  same_filter units [] = refl
  same_filter units (x ∷ xs) =
      ap (λ (c : Bool). cond c (x ∷ filter (has_units (λ (y : A). spell (f y)) (spell units)) xs) (filter (has_units (λ (y : A). spell (f y)) (spell units)) xs)) (same_tests (f x) units)
      ∙ ap (λ (ys : List A). cond (has_units f units x) (x ∷ ys) ys) (same_filter units xs)

  spelt_of : (xs : List A) (at : ℕ) → IsRepeated f p xs at → IsRepeated (λ (x : A). spell (f x)) p xs at
  spelt_of xs at r = record { units = spell r.units; name = r.name; behind = subst (λ (ys : List A). IsAmong r.name (drop 1 ys)) (sym (same_filter r.units xs)) r.behind; starts = r.starts }

  of_spelt : (xs : List A) (at : ℕ) → IsRepeated (λ (x : A). spell (f x)) p xs at → IsRepeated f p xs at
  of_spelt xs at r =
      let is : spell (f r.name) ≡ r.units = same_units (spell (f r.name)) r.units (among_passes (has_units (λ (x : A). spell (f x)) r.units) r.name xs r.behind) in
      record {
        units = f r.name;
        name = r.name;
        behind =
            subst (λ (ys : List A). IsAmong r.name (drop 1 ys)) (same_filter (f r.name) xs)
            (subst (λ (us : List ℕ). IsAmong r.name (drop 1 (filter (has_units (λ (x : A). spell (f x)) us) xs))) (sym is) r.behind);
        starts = r.starts;
      }

  pub least_spelt : (xs : List A) (r : Option ℕ) → IsLeast (IsRepeated (λ (x : A). spell (f x)) p xs) r → IsLeast (IsRepeated f p xs) r
  least_spelt xs r least = least_same (IsRepeated (λ (x : A). spell (f x)) p xs) (IsRepeated f p xs) (of_spelt xs) (spelt_of xs) r least
