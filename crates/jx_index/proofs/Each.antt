-- Facts of each element of a list, and of what a token picks of it.
use Rattle.std.proofs.Common.{◌≡◌, ℕ, zero, suc, List, [], ◌∷◌, length, map, Bool, true, false, cond, refl, ap, ◌∙◌, Result, Ok, Err}
use Rattle.std.specs.Prelude.{filter, slice_get, ok_or}
use Rattle.std.proofs.lemmas.List.{length-map}
use Rattle.jx_lex.specs.declared.kind.Kind.{Kind}
use Rattle.jx_lex.specs.declared.kind.Kind.TheVariants as kind
use Rattle.jx_index.specs.declared.array_token.Place.{Place}
use Rattle.jx_index.specs.declared.array_token.Place.TheVariants as place
use Rattle.jx_index.specs.declared.find_fault.FindFault.{FindFault}
use Rattle.jx_index.specs.declared.find_fault.FindFault.TheVariants.{PastEnd}
use Rattle.jx_index.specs.ArrayTokens.{place_in}
use Rattle.jx_index.specs.Leads.{only, element, at_place, one_token}

module _ {A : Type 0} where
  abbrev pub Each : (A → Type 0) → List A → Type 0
  Each P [] = Unit {0}
  Each P (x ∷ xs) = P x × Each P xs

  abbrev pub AtOk : (A → Type 0) → Result A FindFault → Type 0
  AtOk P (Ok x) = P x
  AtOk P (Err fault) = Unit {0}

  pub each_more : {P Q : A → Type 0} → ((x : A) → P x → Q x) → (xs : List A) → Each P xs → Each Q xs
  each_more f [] h = tt
  each_more f (x ∷ xs) h = (f x h.0, each_more f xs h.1)

  pub each_both : (P Q : A → Type 0) (xs : List A) → Each P xs → Each Q xs → Each (λ x. P x × Q x) xs
  each_both P Q [] h k = tt
  each_both P Q (x ∷ xs) h k = ((h.0, k.0), each_both P Q xs h.1 k.1)

  each_kept : (P : A → Type 0) (b : Bool) (x : A) (xs : List A) → P x → Each P xs → Each P (cond b (x ∷ xs) xs)
  each_kept P true x xs h k = (h, k)
  each_kept P false x xs h k = k

  pub each_filter : (P : A → Type 0) (p : A → Bool) (xs : List A) → Each P xs → Each P (filter p xs)
  each_filter P p [] h = tt
  each_filter P p (x ∷ xs) h = each_kept P (p x) x (filter p xs) h.0 (each_filter P p xs h.1)

  only_each : (P : A → Type 0) (xs : List A) (k : ℕ) → Each P xs → AtOk P (only xs k)
  only_each P [] k h = tt
  only_each P (c ∷ []) k h = h.0
  only_each P (c ∷ d ∷ more) k h = tt

  element_each : (P : A → Type 0) (xs : List A) (i k : ℕ) → Each P xs → AtOk P (element xs i k)
  element_each P [] i k h = tt
  element_each P (c ∷ more) zero k h = h.0
  element_each P (c ∷ more) (suc i) k h = element_each P more i k h.1

  place_each : (P : A → Type 0) (at : Place) (xs : List A) (k : ℕ) → Each P xs → AtOk P (at_place at xs k)
  place_each P (place.Element i) xs k h = element_each P xs i k h
  place_each P place.PastEnd xs k h = tt
  place_each P place.AfterLast xs k h = tt
  place_each P place.NotAnIndex xs k h = tt

  -- what a token picks is one of the elements
  pub token_each : (P : A → Type 0) (p : A → Bool) (token : List ℕ) (k : Kind) (xs : List A) (n : ℕ) → Each P xs → AtOk P (one_token p token k xs n)
  token_each P p token kind.Object xs n h = only_each P (filter p xs) n (each_filter P p xs h)
  token_each P p token kind.Array xs n h = place_each P (place_in token (length xs)) xs n h
  token_each P p token kind.String xs n h = tt
  token_each P p token kind.Number xs n h = tt
  token_each P p token kind.True xs n h = tt
  token_each P p token kind.False xs n h = tt
  token_each P p token kind.Null xs n h = tt

  -- ---- elements of arrays

  pub element_is : (xs : List A) (i k : ℕ) → element xs i k ≡ ok_or (slice_get xs i) (PastEnd k)
  element_is [] i k = refl
  element_is (x ∷ xs) zero k = refl
  element_is (x ∷ xs) (suc i) k = element_is xs i k

-- ---- the same through a function

module _ {A B : Type 0} (f : A → B) where
  abbrev pub map_ok : Result A FindFault → Result B FindFault
  map_ok (Ok x) = Ok (f x)
  map_ok (Err fault) = Err fault

  kept_map : (b : Bool) (x : A) (ys : List A) → cond b (f x ∷ map f ys) (map f ys) ≡ map f (cond b (x ∷ ys) ys)
  kept_map true x ys = refl
  kept_map false x ys = refl

  filter_map : (p : B → Bool) (q : A → Bool) (xs : List A) → Each (λ x. p (f x) ≡ q x) xs → filter p (map f xs) ≡ map f (filter q xs)
  filter_map p q [] h = refl
  filter_map p q (x ∷ xs) h =
      ap (λ b. cond b (f x ∷ filter p (map f xs)) (filter p (map f xs))) h.0
      ∙ ap (λ l. cond (q x) (f x ∷ l) l) (filter_map p q xs h.1)
      ∙ kept_map (q x) x (filter q xs)

  only_map : (xs : List A) (k : ℕ) → only (map f xs) k ≡ map_ok (only xs k)
  only_map [] k = refl
  only_map (c ∷ []) k = refl
  only_map (c ∷ d ∷ more) k = refl

  element_map : (xs : List A) (i k : ℕ) → element (map f xs) i k ≡ map_ok (element xs i k)
  element_map [] i k = refl
  element_map (c ∷ more) zero k = refl
  element_map (c ∷ more) (suc i) k = element_map more i k

  place_map : (at : Place) (xs : List A) (k : ℕ) → at_place at (map f xs) k ≡ map_ok (at_place at xs k)
  place_map (place.Element i) xs k = element_map xs i k
  place_map place.PastEnd xs k = refl
  place_map place.AfterLast xs k = refl
  place_map place.NotAnIndex xs k = refl

  -- a fact that only objects need
  abbrev pub OfObject : Kind → Type 0 → Type 0
  OfObject kind.Object P = P
  OfObject _ P = Unit {0}

  pub token_map : (p : B → Bool) (q : A → Bool) (token : List ℕ) (k : Kind) (xs : List A) (n : ℕ) → OfObject k (Each (λ x. p (f x) ≡ q x) xs)
      → one_token p token k (map f xs) n ≡ map_ok (one_token q token k xs n)
  token_map p q token kind.Object xs n h = ap (λ l. only l n) (filter_map p q xs h) ∙ only_map (filter q xs) n
  token_map p q token kind.Array xs n h = ap (λ m. at_place (place_in token m) (map f xs) n) (length-map xs f) ∙ place_map (place_in token (length xs)) xs n
  token_map p q token kind.String xs n h = refl
  token_map p q token kind.Number xs n h = refl
  token_map p q token kind.True xs n h = refl
  token_map p q token kind.False xs n h = refl
  token_map p q token kind.Null xs n h = refl
