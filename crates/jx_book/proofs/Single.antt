-- Runs that add up to all bytes from an offset on are one run.
use Rattle.std.proofs.Common.{◌≡◌, ℕ, suc, ◌+◌, ◌<◌, ◌≤◌, List, [], ◌∷◌, ◌++◌, length, length-append, get_or, refl, ap, arith}
use Rattle.std.specs.Prelude.{sum_by}
use Rattle.std.proofs.lemmas.List.Sums.{sum_by-cons}
use Rattle.jx_book.specs.Runs.{HeldValue, IsApart, run_len}

module _ {S : Type 0} where
  tail : (x : HeldValue S) (xs : List (HeldValue S)) → IsApart (x ∷ xs) → IsApart xs
  tail x xs h = record {
    filled = λ k d l. h.filled (suc k) d (omega arith);
    apart = λ i j d less l. h.apart (suc i) (suc j) d (omega arith) (omega arith);
  }

  -- runs between a and b
  room : (xs : List (HeldValue S)) (a b : ℕ) → IsApart xs → a ≤ b → ((k : ℕ) (d : HeldValue S) → k < length xs → a ≤ (get_or xs k d).span.start) → ((k : ℕ) (d : HeldValue S) → k < length xs → (get_or xs k d).span.end ≤ b) → a + sum_by run_len xs ≤ b
  room [] a b h le from to = omega arith
  room (x ∷ xs) a b h le from to =
      let rest = room xs x.span.end b (tail x xs h) (to 0 x (omega arith))
      (λ k d l. omega (arith, h.apart 0 (suc k) d (omega arith) (omega arith)))
      (λ k d l. to (suc k) d (omega arith)) in
      omega (arith, rest, sum_by-cons run_len x xs, from 0 x (omega arith), h.filled 0 x (omega arith))

  -- where they fill the room there is one at most, and it covers all of it
  fills : (x : HeldValue S) (xs : List (HeldValue S)) (a b : ℕ) → IsApart (x ∷ xs) → a ≤ x.span.start → ((k : ℕ) (d : HeldValue S) → k < length (x ∷ xs) → (get_or (x ∷ xs) k d).span.end ≤ b) → a + sum_by run_len (x ∷ xs) ≡ b → (xs ≡ []) × (x.span.start ≡ a) × (x.span.end ≡ b)
  fills x [] a b h from to total = (refl, omega (arith, total, from, sum_by-cons run_len x [], h.filled 0 x (omega arith), to 0 x (omega arith)), omega (arith, total, from, sum_by-cons run_len x [], h.filled 0 x (omega arith), to 0 x (omega arith)))
  fills x (y ∷ ys) a b h from to total =
      let gap = h.apart 0 1 x (omega arith) (omega arith) in
      let rest = room (y ∷ ys) (suc x.span.end) b (tail x (y ∷ ys) h) (omega (arith, gap, h.filled 1 x (omega arith), to 1 x (omega arith)))
      (λ k d l. h.apart 0 (suc k) d (omega arith) (omega arith))
      (λ k d l. to (suc k) d (omega arith)) in
      absurd (omega (arith, rest, total, from, sum_by-cons run_len x (y ∷ ys), gap, h.filled 0 x (omega arith)))

  pub single : (front : List (HeldValue S)) (r : HeldValue S) (a b : ℕ) → IsApart (front ++ r ∷ []) → ((k : ℕ) (d : HeldValue S) → k < length (front ++ r ∷ []) → a ≤ (get_or (front ++ r ∷ []) k d).span.start) → ((k : ℕ) (d : HeldValue S) → k < length (front ++ r ∷ []) → (get_or (front ++ r ∷ []) k d).span.end ≤ b) → a + sum_by run_len (front ++ r ∷ []) ≡ b → (r.span.start ≡ a) × (r.span.end ≡ b)
  single [] r a b h from to total = let f = fills r [] a b h (from 0 r (omega arith)) to total in (f.1, f.2)
  single (x ∷ xs) r a b h from to total =
      let f = fills x (xs ++ r ∷ []) a b h (from 0 x (omega arith)) to total in
      absurd (omega (arith, ap (λ (l : List (HeldValue S)). length l) f.0, length-append xs (r ∷ [])))
