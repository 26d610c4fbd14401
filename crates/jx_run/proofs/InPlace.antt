-- A list that is gone through in place: what holds of each element behind its turn, and before it.
use Rattle.std.proofs.Common.{ℕ, zero, suc, ◌<◌, ◌≤◌, List, [], ◌∷◌, length, get_or, slice_set, arith}
use Rattle.std.specs.List.{AllZip}

module _ {A B : Type 0} (Before After : A → B → Type 0) where
  -- the first so many had their turn
  abbrev pub Passed : ℕ → List A → List B → Type 0
  Passed zero ps xs = AllZip Before ps xs
  Passed (suc n) [] [] = Unit {0}
  Passed (suc n) [] (x ∷ xs) = ⊥
  Passed (suc n) (p ∷ ps) [] = ⊥
  Passed (suc n) (p ∷ ps) (x ∷ xs) = After p x × Passed n ps xs

  pub pass_one : (n : ℕ) (ps : List A) (xs : List B) (d y : B) → n < length xs → Passed n ps xs → ((p : A) → Before p (get_or xs n d) → After p y) → Passed (suc n) ps (slice_set xs n y)
  pass_one zero [] [] d y low h f = absurd (omega (arith, low))
  pass_one zero [] (x ∷ xs) d y low h f = absurd h
  pass_one zero (p ∷ ps) [] d y low h f = absurd h
  pass_one zero (p ∷ ps) (x ∷ xs) d y low h f = (f p h.0, h.1)
  pass_one (suc n) [] [] d y low h f = absurd (omega (arith, low))
  pass_one (suc n) [] (x ∷ xs) d y low h f = absurd h
  pass_one (suc n) (p ∷ ps) [] d y low h f = absurd h
  pass_one (suc n) (p ∷ ps) (x ∷ xs) d y low h f = (h.0, pass_one n ps xs d y (omega (arith, low)) h.1 f)

  -- what stands at the next place
  pub next_of : (n : ℕ) (ps : List A) (xs : List B) (d : B) → n < length xs → Passed n ps xs → (p : A) × Before p (get_or xs n d)
  next_of zero [] [] d low h = absurd (omega (arith, low))
  next_of zero [] (x ∷ xs) d low h = absurd h
  next_of zero (p ∷ ps) [] d low h = absurd h
  next_of zero (p ∷ ps) (x ∷ xs) d low h = (p, h.0)
  next_of (suc n) [] [] d low h = absurd (omega (arith, low))
  next_of (suc n) [] (x ∷ xs) d low h = absurd h
  next_of (suc n) (p ∷ ps) [] d low h = absurd h
  next_of (suc n) (p ∷ ps) (x ∷ xs) d low h = next_of n ps xs d (omega (arith, low)) h.1

  pub all_passed : (n : ℕ) (ps : List A) (xs : List B) → length xs ≤ n → Passed n ps xs → AllZip After ps xs
  all_passed zero [] [] past h = tt
  all_passed zero [] (x ∷ xs) past h = absurd h
  all_passed zero (p ∷ ps) [] past h = absurd h
  all_passed zero (p ∷ ps) (x ∷ xs) past h = absurd (omega (arith, past))
  all_passed (suc n) [] [] past h = tt
  all_passed (suc n) [] (x ∷ xs) past h = absurd h
  all_passed (suc n) (p ∷ ps) [] past h = absurd h
  all_passed (suc n) (p ∷ ps) (x ∷ xs) past h = (h.0, all_passed n ps xs (omega (arith, past)) h.1)
