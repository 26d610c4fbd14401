-- Among members by rising names those of some units stand together, from the first that is not below them.
use Rattle.std.proofs.Common.{◌≡◌, ℕ, zero, suc, ◌+◌, ◌-◌, ◌<◌, ◌≤◌, List, [], ◌∷◌, length, take, drop, Bool, true, false, cond, refl, ap, ◌∙◌, arith, get_or, drop-cons}
use Rattle.std.specs.Prelude.{filter, slice_range}
use Rattle.std.specs.List.Sorted.{IsNonDecreasingBy, IsPartitionPoint, IsSortedBy}
use Rattle.std.proofs.lemmas.List.{get_or-drop, get_or-take, length-drop, length-take}
use Rattle.std.specs.declared.cmp.Ordering.{Ordering}
use Rattle.std.specs.declared.cmp.Ordering.TheVariants.{Less, Equal, Greater}
use Rattle.std.specs.Ordering.{is_eq, ordering_index}
use Rattle.std.proofs.lemmas.Bool.{ltb-true, ltb-false}
use Rattle.std.proofs.Math.Dec.{ltb}
use Rattle.jx_index.specs.inside.LookUp.{IsEqualAt}

-- a filter that no element passes
none_pass : (p : ℕ → Bool) (xs : List ℕ) → ((k : ℕ) → k < length xs → p (get_or xs k 0) ≡ false) → filter p xs ≡ []
none_pass p [] h = refl
none_pass p (x ∷ xs) h =
    ap (λ c. cond c (x ∷ filter p xs) (filter p xs)) (h 0 (omega arith)) ∙ none_pass p xs (λ k l. h (suc k) (omega arith))

-- elements at the front that do not pass
pass_later : (p : ℕ → Bool) (xs : List ℕ) (at : ℕ) → ((k : ℕ) → k < at → k < length xs → p (get_or xs k 0) ≡ false) → filter p xs ≡ filter p (drop at xs)
pass_later p xs zero h = refl
pass_later p [] (suc at) h = refl
pass_later p (x ∷ xs) (suc at) h =
    ap (λ c. cond c (x ∷ filter p xs) (filter p xs)) (h 0 (omega arith) (omega arith)) ∙ pass_later p xs at (λ k l m. h (suc k) (omega arith) (omega arith))

-- elements at the end that do not pass
pass_earlier : (p : ℕ → Bool) (xs : List ℕ) (n : ℕ) → ((k : ℕ) → n ≤ k → k < length xs → p (get_or xs k 0) ≡ false) → filter p xs ≡ filter p (take n xs)
pass_earlier p xs zero h = none_pass p xs (λ k l. h k (omega arith) l)
pass_earlier p [] (suc n) h = refl
pass_earlier p (x ∷ xs) (suc n) h = ap (λ l. cond (p x) (x ∷ l) l) (pass_earlier p xs n (λ k l m. h (suc k) (omega (arith, l)) (omega (arith, m))))

get_or-drop_at : (xs : List ℕ) (at k : ℕ) → get_or (drop at xs) k 0 ≡ get_or xs (at + k) 0
get_or-drop_at xs zero k = ap (λ n. get_or xs n 0) (let e : k ≡ 0 + k = omega arith in e)
get_or-drop_at [] (suc at) k = refl
get_or-drop_at (x ∷ xs) (suc at) k = get_or-drop_at xs at k ∙ ap (λ n. get_or (x ∷ xs) n 0) (let e : suc (at + k) ≡ suc at + k = omega arith in e)

length-drop_at : (xs : List ℕ) (at k : ℕ) → k < length (drop at xs) → at + k < length xs
length-drop_at xs zero k h = omega arith
length-drop_at [] (suc at) k h = absurd (omega arith)
length-drop_at (x ∷ xs) (suc at) k h = omega (arith, length-drop_at xs at k h)

-- those that pass stand between two places
pub pass_between : (p : ℕ → Bool) (xs : List ℕ) (from to : ℕ) → from ≤ to → ((k : ℕ) → k < from → k < length xs → p (get_or xs k 0) ≡ false)
    → ((k : ℕ) → to ≤ k → k < length xs → p (get_or xs k 0) ≡ false) → filter p xs ≡ filter p (slice_range xs from to)
pass_between p xs from to le before behind =
    pass_later p xs from before
    ∙ pass_earlier p (drop from xs) (to - from)
    (λ k l m. ap p (get_or-drop_at xs from k) ∙ behind (from + k) (omega (arith, l, le)) (length-drop_at xs from k m))

pub sorted_between : (lt : ℕ → ℕ → Bool) (xs : List ℕ) (from to : ℕ) → IsSortedBy lt xs → IsSortedBy lt (slice_range xs from to)
sorted_between lt xs from to h k d low high =
    let long = length-take (to - from) (drop from xs) in
    let rest = length-drop from xs in
    let e : from + (k + 1) ≡ from + k + 1 = omega arith in
    ap (λ x. lt x (get_or (slice_range xs from to) k d)) (get_or-take (to - from) (drop from xs) (k + 1) d (omega (arith, long, high)) ∙ get_or-drop from xs (k + 1) d ∙ ap (λ n. get_or xs n d) e)
    ∙ ap (λ x. lt (get_or xs (from + k + 1) d) x) (get_or-take (to - from) (drop from xs) k d (omega (arith, long, high)) ∙ get_or-drop from xs k d)
    ∙ h (from + k) d (omega arith) (omega (arith, long, rest, high))

-- equal is what stands at 1
pub eq_at_one : (o : Ordering) → ordering_index o ≡ 1 → is_eq o ≡ true
eq_at_one Less h = absurd (omega arith)
eq_at_one Equal h = refl
eq_at_one Greater h = absurd (omega arith)

pub eq_not_one : (o : Ordering) → (ordering_index o ≡ 1 → ⊥) → is_eq o ≡ false
eq_not_one Less h = refl
eq_not_one Equal h = absurd (h refl)
eq_not_one Greater h = refl

module _ (rank : ℕ → ℕ) (p : ℕ → Bool) (yes : (y : ℕ) → rank y ≡ 1 → p y ≡ true) (no : (y : ℕ) → (rank y ≡ 1 → ⊥) → p y ≡ false)
    (names : List ℕ) (at : ℕ) (rises : IsNonDecreasingBy rank names)
    (point : IsPartitionPoint (λ y. ltb (rank y) 1 ≡ true) (λ y. ltb (rank y) 1 ≡ false) names at) where
  below : (k : ℕ) → k < at → k < length names → rank (get_or names k 0) < 1
  below k h l = ltb-true _ _ (point.0 k 0 (omega arith) h)

  not_below : (k : ℕ) → at ≤ k → k < length names → 1 ≤ rank (get_or names k 0)
  not_below k h l = ltb-false _ 1 (point.1 k 0 h l)

  -- where an equal name stands at k, all from the point up to k are equal
  equal_between : (i k : ℕ) → at ≤ i → i ≤ k → k < length names → rank (get_or names k 0) ≡ 1 → IsEqualAt rank names i
  equal_between i k le h lt e =
      let a = not_below i le (omega arith) in
      let b : rank (get_or names i 0) ≤ rank (get_or names k 0) = rises i k 0 h lt in
      (omega arith, (let x : rank (get_or names i 0) ≡ 1 = omega arith in x))

  -- none from the point on is equal where the one at it isn't, and no earlier one is
  fails_from : (i : ℕ) → at ≤ i → (IsEqualAt rank names i → ⊥) → (k : ℕ) → i ≤ k → k < length names → p (get_or names k 0) ≡ false
  fails_from i le n k h lt = no _ (λ e. n (equal_between i k le h lt e))

  fails_before : (k : ℕ) → k < at → k < length names → p (get_or names k 0) ≡ false
  fails_before k h lt = no _ (λ e. let b = below k h lt in absurd (omega (arith, b, e)))

  from_point : filter p names ≡ filter p (drop at names)
  from_point = pass_later p names at fails_before

  -- the one at i, and those that follow it
  one_at : (i : ℕ) → IsEqualAt rank names i → filter p (drop i names) ≡ get_or names i 0 ∷ filter p (drop (suc i) names)
  one_at i h =
      ap (filter p) (drop-cons names i 0 h.0)
      ∙ ap (λ c. cond c (get_or names i 0 ∷ filter p (drop (suc i) names)) (filter p (drop (suc i) names))) (yes (get_or names i 0) h.1)

  none_from : (i : ℕ) → at ≤ i → (IsEqualAt rank names i → ⊥) → filter p (drop i names) ≡ []
  none_from i le n =
      none_pass p (drop i names) (λ k l. ap p (get_or-drop_at names i k) ∙ fails_from i le n (i + k) (omega arith) (length-drop_at names i k l))

  pub nowhere : (IsEqualAt rank names at → ⊥) → filter p names ≡ []
  nowhere n = from_point ∙ none_from at (omega arith) n

  pub once : IsEqualAt rank names at → (IsEqualAt rank names (suc at) → ⊥) → filter p names ≡ get_or names at 0 ∷ []
  once h n = from_point ∙ one_at at h ∙ ap (λ x. get_or names at 0 ∷ x) (none_from (suc at) (omega arith) n)

  pub often : IsEqualAt rank names at → IsEqualAt rank names (suc at)
      → filter p names ≡ get_or names at 0 ∷ (get_or names (suc at) 0 ∷ filter p (drop (suc (suc at)) names))
  often h e = from_point ∙ one_at at h ∙ ap (λ x. get_or names at 0 ∷ x) (one_at (suc at) e)
