-- Tests of up to 64 bytes at once: the mask of a vector's lanes, and the first of them that passes.
use Rattle.std.proofs.Common.{◌≡◌, ℕ, ◌+◌, ◌%◌, ◌^◌, ◌<◌, ◌≤◌, Bool, true, false, not, cond, List, [], ◌∷◌, length, map, get_or, refl, sym, ap, subst, inl, inr, ◌∙◌, arith, w8, w64, Fits}
use Rattle.std.specs.Int.{bit_at, trailing_zeros}
use Rattle.std.specs.Simd.Lanes.{Each1, mask_l, top, chunk}
use Rattle.std.specs.Slice.Scan.{IsFirstPlace, Marks}
use Rattle.std.proofs.lemmas.Simd.{length-chunk, mask_l-mod, mask_l-lt, bit_mask_l, trailing_mask_l, run_in_chunk_fails, run_in_chunk_stops, none_from_empty_mask}
use Rattle.std.proofs.lemmas.List.{length-map, get_or_past}
use Rattle.std.proofs.lemmas.Nat.Bits.{bit_at-trailing_zeros}
use Rattle.std.proofs.lemmas.Bool.{cases_lt}
use Rattle.std.specs.List.{prefix_len}
use Rattle.jx_lex.proofs.ClassTable.{all_below, all_below-at}

-- two tests that answer alike
abbrev pub agree : Bool → Bool → Bool
agree true b = b
agree false b = not b

agree-use : (a b : Bool) → agree a b ≡ true → a ≡ b
agree-use true true h = refl
agree-use true false h = cc
agree-use false true h = cc
agree-use false false h = refl

same_tests : (p q : ℕ → Bool) → all_below 256 (λ x. agree (p x) (q x)) ≡ true → (v : List ℕ) → Each1 (Fits w8) v → map p v ≡ map q v
same_tests p q h [] fits = refl
same_tests p q h (x ∷ v) fits =
    let below : x < 256 = fits.0.fits in
    let e : p x ≡ q x = agree-use (p x) (q x) (all_below-at (λ x. agree (p x) (q x)) 256 h x below) in
    ap (λ b. b ∷ map p v) e ∙ ap (λ l. q x ∷ l) (same_tests p q h v fits.1)

map-again : {X : Type 0} (f : ℕ → ℕ) (g : ℕ → X) (v : List ℕ) → map g (map f v) ≡ map (λ x. g (f x)) v
map-again f g [] = refl
map-again f g (x ∷ v) = ap (λ l. g (f x) ∷ l) (map-again f g v)

-- equal lanes have equal masks
pub masked : {us vs : List ℕ} → us ≡ vs → mask_l (map (top 7) us) % 2 ^ 64 ≡ mask_l (map (top 7) vs) % 2 ^ 64
masked e = ap (λ l. mask_l (map (top 7) l) % 2 ^ 64) e

-- the mask of lanes that were computed byte by byte, where each of the 256 bytes was tried
pub lanes_mask : (n : ℕ) → n ≤ 64 → (f : ℕ → ℕ) (p : ℕ → Bool) (v : List ℕ) → length v ≡ n → Each1 (Fits w8) v
    → all_below 256 (λ x. agree (top 7 (f x)) (p x)) ≡ true → mask_l (map (top 7) (map f v)) % 2 ^ 64 ≡ mask_l (map p v)
lanes_mask n few f p v long fits h =
    ap (λ l. mask_l l % 2 ^ 64) (map-again f (top 7) v ∙ same_tests (λ x. top 7 (f x)) p h v fits)
    ∙ mask_l-mod (map p v) 64 (omega (arith, long, length-map v p))

-- the lowest bit of a mask stands for a lane
lowest_is_lane : (n : ℕ) (ms : List Bool) → length ms ≡ n → 0 < mask_l ms → mask_l ms < 2 ^ 64 → trailing_zeros w64 (mask_l ms) < n
lowest_is_lane n ms long some fits = within (trailing_zeros w64 (mask_l ms)) ((bit_at-trailing_zeros w64 (mask_l ms) some fits).1)
  where
    past : (r : ℕ) → bit_at (mask_l ms) r ≡ 1 → n ≤ r → r < n
    past r set le =
        let none : cond {A = ℕ} (get_or ms r false) 1 0 ≡ 0 = ap (λ b. cond {A = ℕ} b 1 0) (get_or_past ms r false (omega (arith, long))) in
        let some : cond {A = ℕ} (get_or ms r false) 1 0 ≡ 1 = sym (bit_mask_l ms r) ∙ set in
        absurd (omega (arith, none, some))

    within : (r : ℕ) → bit_at (mask_l ms) r ≡ 1 → r < n
    within r set = elim (cases_lt r n) [ inl lt ↦ lt | inr le ↦ past r set le ]

module _ (n : ℕ) (few : n ≤ 64) (narrow : 2 ^ n ≤ 2 ^ 64) (p : ℕ → Bool) (xs : List ℕ) (i : ℕ) (room : i + n ≤ length xs) where
  long : length (map p (chunk i n xs)) ≡ n
  long = length-map (chunk i n xs) p ∙ length-chunk i n xs room

  small : mask_l (map p (chunk i n xs)) < 2 ^ 64
  small = let below = subst (λ k. mask_l (map p (chunk i n xs)) < 2 ^ k) long (mask_l-lt (map p (chunk i n xs))) in omega (arith, below, narrow)

  counted : 0 < mask_l (map p (chunk i n xs)) → trailing_zeros w64 (mask_l (map p (chunk i n xs))) ≡ prefix_len (λ x. not (p x)) (chunk i n xs)
  counted some = trailing_mask_l p 64 (chunk i n xs) (let l = length-chunk i n xs room in omega (arith, l)) some

  first_lane : (r : ℕ) → r < n → r ≡ prefix_len (λ x. not (p x)) (chunk i n xs) → IsFirstPlace (λ k. p (get_or xs k 0)) i (i + n) (i + r)
  first_lane r lt is = record {
    low = omega arith;
    high = omega arith;
    before = run_in_chunk_fails p xs i n r 0 room is;
    hit = λ h. run_in_chunk_stops p xs i n r 0 room is lt;
  }

  mask_marks : Marks (λ k. p (get_or xs k 0)) i n (mask_l (map p (chunk i n xs)))
  mask_marks = record {
    none = λ z. none_from_empty_mask p xs i n 0 room z;
    lowest = λ some. let lt = lowest_is_lane n (map p (chunk i n xs)) long some small in (lt, first_lane _ lt (counted some));
  }

  -- the mask of the bytes from i on shows where the test holds first
  pub marks_of : (m : ℕ) → m ≡ mask_l (map p (chunk i n xs)) → Marks (λ k. p (get_or xs k 0)) i n m
  marks_of m is = subst (Marks (λ k. p (get_or xs k 0)) i n) (sym is) mask_marks
