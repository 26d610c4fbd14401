-- Lists of which a loop or a call changes each element in its place.
use Rattle.std.proofs.Common.{◌≡◌, ℕ, zero, suc, ◌+◌, ◌<◌, ◌≤◌, List, [], ◌∷◌, ◌++◌, length, get_or, set, take, drop, map, refl, sym, ◌∙◌, ap, subst, arith, ⊎_elim}
use denote.Param.Members.{Mut}
use Rattle.std.specs.Array.{IsFromFnResult, IsFromFnResultFrom}
use Rattle.std.specs.Fn.{Called}
use Rattle.std.proofs.lemmas.Bool.{cases_eq}
use Rattle.std.proofs.lemmas.List.{append-nil, drop_all, drop-drop, drop-set-lt, get_or-drop, get_or-map, get_or-set_other, get_or-set_same, map-set, set-get_or, take_all}

module _ {A B : Type 0} where
  -- what a function of the elements says is the same behind a write that keeps it
  pub map_kept : (f : A → B) (xs : List A) (i : ℕ) (d y : A) → i < length xs → f y ≡ f (get_or xs i d) → map f (set xs i y) ≡ map f xs
  map_kept f xs i d y lt e =
      map-set f xs i y
      ∙ ap (set (map f xs) i) (e ∙ sym (get_or-map f xs i d (f d) lt))
      ∙ set-get_or (map f xs) i (f d)

-- elements that are made of those in the same places
module _ {A B C : Type 0} (f : B → C) (g : A → C) where
  pub maps_at : (xs : List A) (ys : List B) → length ys ≡ length xs → ((i : ℕ) (d : A) (e : B) → i < length xs → f (get_or ys i e) ≡ g (get_or xs i d)) → map f ys ≡ map g xs
  maps_at [] [] long h = refl
  maps_at [] (y ∷ ys) long h = absurd (omega arith)
  maps_at (x ∷ xs) [] long h = absurd (omega arith)
  maps_at (x ∷ xs) (y ∷ ys) long h =
      ap (λ (z : C). z ∷ map f ys) (h 0 x y (omega arith))
      ∙ ap (λ (l : List C). g x ∷ l) (maps_at xs ys (omega arith) (λ i d e lt. h (suc i) d e (omega arith)))

-- what each call of `array::from_fn` gives, where the calls leave the closure as it was
module _ {F B : Type 0} (g : Mut F (ℕ × Unit {0}) B) (R : ℕ → B → Type 0) (f : F) (all : ℕ) (each : (i : ℕ) (y : B) (q : F) → i < all → Called g f (i, tt) y q → R i y × (q ≡ f)) where
  made_from : (p : F) (ys : List B) (i n : ℕ) → p ≡ f → i + n ≡ all → IsFromFnResultFrom g p ys i n → (k : ℕ) (e : B) → i ≤ k → k < i + n → R k (get_or ys k e)
  made_from p ys i zero same count m k e above below = absurd (omega arith)
  made_from p ys i (suc n) same count m k e above below =
      let call = each i m.1 m.0 (omega arith) (subst (λ w. Called g w (i, tt) m.1 m.0) same m.3) in
      ⊎_elim
      (λ here. subst (λ j. R j (get_or ys j e)) (sym here) (subst (R i) (sym (m.2.1 e)) call.0))
      (λ there. made_from m.0 ys (i + 1) n call.1 (omega arith) m.4 k e (omega (arith, above, there)) (omega (arith, below)))
      (cases_eq k i)

  pub made_each : (ys : List B) → IsFromFnResult g f ys all → (k : ℕ) (e : B) → k < all → R k (get_or ys k e)
  made_each ys m k e low = made_from f ys 0 all refl (omega arith) m.each k e (omega arith) (omega (arith, low))

module _ {A : Type 0} where
  -- the first elements are such ones, and one more is written
  pub such_more : (P : A → Type 0) (xs : List A) (i : ℕ) (y : A) → i < length xs → P y → ((k : ℕ) (d : A) → k < i → P (get_or xs k d))
      → (k : ℕ) (d : A) → k < i + 1 → P (get_or (set xs i y) k d)
  such_more P xs i y lt p h k d low = ⊎_elim
      (λ e. subst P (sym (ap (λ n. get_or (set xs i y) n d) e ∙ get_or-set_same xs i y d lt)) p)
      (λ n. subst P (sym (get_or-set_other xs i k y d n)) (h k d (omega arith)))
      (cases_eq k i)

  -- the rest is still as it was
  pub rest_at : (xs ys : List A) (i : ℕ) (d : A) → drop i xs ≡ drop i ys → get_or xs i d ≡ get_or ys i d
  rest_at xs ys i d e =
      let here : i ≡ i + 0 = omega arith in
      ap (λ n. get_or xs n d) here ∙ sym (get_or-drop i xs 0 d) ∙ ap (λ (l : List A). get_or l 0 d) e ∙ get_or-drop i ys 0 d ∙ sym (ap (λ n. get_or ys n d) here)

  pub rest_more : (xs ys : List A) (i : ℕ) (y : A) → drop i xs ≡ drop i ys → drop (i + 1) (set xs i y) ≡ drop (i + 1) ys
  rest_more xs ys i y e = drop-set-lt (i + 1) xs i y (omega arith) ∙ sym (drop-drop 1 i xs) ∙ ap (drop 1) e ∙ drop-drop 1 i ys

  -- all were written
  pub map_over_all : (f : A → A) (xs ys : List A) (n : ℕ) → length xs ≤ n → ys ≡ map f (take n xs) ++ drop n xs → ys ≡ map f xs
  map_over_all f xs ys n all h =
      h ∙ ap (λ (l : List A). map f l ++ drop n xs) (take_all n xs all) ∙ ap (λ (l : List A). map f xs ++ l) (drop_all n xs all) ∙ append-nil (map f xs)
