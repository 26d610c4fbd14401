-- Members in the order of their names, and those of some units among them.
use Rattle.std.proofs.Common.{◌≡◌, ℕ, List, [], ◌∷◌, Bool, true, false, cond, refl, sym, ap, ◌∙◌}
use Rattle.std.proofs.lemmas.List.Elements.{filter_agree}
use Rattle.std.specs.Prelude.{filter, not, ◌&&◌}
use Rattle.std.specs.declared.cmp.Ordering.{Ordering}
use Rattle.std.specs.declared.cmp.Ordering.TheVariants.{Less, Equal, Greater}
use Rattle.std.specs.Ordering.{nat_cmp, is_lt, is_eq, ordering_reverse}
use Rattle.std.specs.Cmp.Lexicographic.{slice_cmp, nat_list_cmp_total}
use Rattle.std.specs.List.Sorted.{IsStableBy, ties}
use Rattle.jx_index.specs.Repeats.{has_units}

equal_of : (o : Ordering) → is_eq o ≡ true → o ≡ Equal
equal_of Less h = absurd (cc)
equal_of Equal h = refl
equal_of Greater h = absurd (cc)

ties_of : (o : Ordering) → is_eq o ≡ (not (is_lt (ordering_reverse o)) && not (is_lt o))
ties_of Less = refl
ties_of Equal = refl
ties_of Greater = refl

head_passes : {A : Type 0} (p : A → Bool) (xs ys : List A) (y : A) → filter p xs ≡ y ∷ ys → p y ≡ true
head_passes p [] ys y h = absurd (cc)
head_passes p (x ∷ xs) ys y h = pick (p x) refl h (λ k. head_passes p xs ys y k)
  where
    pick : (b : Bool) → p x ≡ b → cond b (x ∷ filter p xs) (filter p xs) ≡ y ∷ ys → (filter p xs ≡ y ∷ ys → p y ≡ true) → p y ≡ true
    pick true e k rec = let same : x ≡ y = cc in ap p (sym same) ∙ e
    pick false e k rec = rec k

-- a name stands before another by its units
abbrev pub falls : {A : Type 0} → (A → List ℕ) → A → A → Bool
falls units_of x y = is_lt (slice_cmp nat_cmp (units_of x) (units_of y))

module _ {A : Type 0} (units_of : A → List ℕ) (units : List ℕ) where
  -- those that have the units are those that tie with one of them
  equal_ties : (y : A) → has_units units_of units y ≡ true → (x : A) → has_units units_of units x ≡ ties (falls units_of) y x
  equal_ties y h x =
      let r = slice_cmp nat_cmp in
      let u = units_of in
      let e : r (u y) units ≡ Equal = equal_of (r (u y) units) h in
      let b : r (u x) units ≡ r (u x) (u y) =
      nat_list_cmp_total.antisymm (u x) units ∙ ap ordering_reverse (sym (nat_list_cmp_total.congr (u y) units (u x) e)) ∙ sym (nat_list_cmp_total.antisymm (u x) (u y)) in
      ap is_eq b
      ∙ ties_of (r (u x) (u y))
      ∙ ap (λ o. not (is_lt o) && not (is_lt (r (u x) (u y)))) (sym (nat_list_cmp_total.antisymm (u y) (u x)))

  -- a stable order keeps them as they were
  pub equal_kept : (members names : List A) → IsStableBy (falls units_of) members names → filter (has_units units_of units) names ≡ filter (has_units units_of units) members
  equal_kept members names stable = cases (filter p names) (filter p members) refl refl
    where
      p : A → Bool
      p = has_units units_of units

      from : (y : A) → p y ≡ true → filter p names ≡ filter p members
      from y h =
          filter_agree p (ties (falls units_of) y) (equal_ties y h) names
          ∙ stable y
          ∙ sym (filter_agree p (ties (falls units_of) y) (equal_ties y h) members)

      cases : (xs ys : List A) → filter p names ≡ xs → filter p members ≡ ys → filter p names ≡ filter p members
      cases [] [] e f = e ∙ sym f
      cases (y ∷ xs) ys e f = from y (head_passes p names xs y e)
      cases [] (y ∷ ys) e f = from y (head_passes p members ys y f)
