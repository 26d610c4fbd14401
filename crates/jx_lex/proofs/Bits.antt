-- One bit of a word through each operation.
use Rattle.std.proofs.Common.{◌≡◌, ℕ, zero, suc, ◌+◌, ◌-◌, ◌*◌, ◌/◌, ◌%◌, ◌^◌, ◌<◌, ◌≤◌, min, max, Bool, true, false, not, cond, List, [], ◌∷◌, length, map, get_or, refl, sym, ap, ◌∙◌, inl, inr, ◌⊎◌, arith, w64, bit_and, bit_or, bit_xor}
use Rattle.std.specs.Prelude.{◌==◌, ◌&&◌, ◌||◌}
use Rattle.std.specs.Int.{bit_at}
use Rattle.std.specs.Simd.Lanes.{mask_l}
use Rattle.std.proofs.lemmas.Nat.{pow_pos, shr-shr, shr_high, shr_split}
use Rattle.std.proofs.lemmas.Nat.Bits.{bit_at_and, bit_at_or, bit_at_xor, bit_at_not, bit_at-lt, bit_at-suc, bit_at-zero, bit_at_lowest, bit_at_cat_low, bit_at_cat_high}
use Rattle.std.proofs.lemmas.Simd.{bit_mask_l}
use Rattle.std.proofs.lemmas.Bool.{or_left, or_right}
use Rattle.std.proofs.lemmas.Bool.Decides.{nat_tests}
use Rattle.jx_lex.specs.inside.Bits.{bit}

-- ---- bits as numbers

zero_or_one : (x : ℕ) → x < 2 → (x ≡ 0) ⊎ (x ≡ 1)
zero_or_one zero lt = inl refl
zero_or_one (suc zero) lt = inr refl
zero_or_one (suc (suc x)) lt = absurd (omega arith)

both_set : (x y : ℕ) → x < 2 → y < 2 → (min x y == 1) ≡ ((x == 1) && (y == 1))
both_set zero zero h k = refl
both_set zero (suc zero) h k = refl
both_set (suc zero) zero h k = refl
both_set (suc zero) (suc zero) h k = refl
both_set (suc (suc x)) y h k = absurd (omega arith)
both_set zero (suc (suc y)) h k = absurd (omega arith)
both_set (suc zero) (suc (suc y)) h k = absurd (omega arith)

one_set : (x y : ℕ) → x < 2 → y < 2 → (max x y == 1) ≡ ((x == 1) || (y == 1))
one_set zero zero h k = refl
one_set zero (suc zero) h k = refl
one_set (suc zero) zero h k = refl
one_set (suc zero) (suc zero) h k = refl
one_set (suc (suc x)) y h k = absurd (omega arith)
one_set zero (suc (suc y)) h k = absurd (omega arith)
one_set (suc zero) (suc (suc y)) h k = absurd (omega arith)

not_set : (x : ℕ) → x < 2 → ((1 - x) == 1) ≡ not (x == 1)
not_set zero h = refl
not_set (suc zero) h = refl
not_set (suc (suc x)) h = absurd (omega arith)

-- an even sum is of two equal bits
alike : (x y : ℕ) → x < 2 → y < 2 → ((x + y) % 2 == 1) ≡ false → (x == 1) ≡ (y == 1)
alike zero zero h k e = refl
alike zero (suc zero) h k e = cc
alike (suc zero) zero h k e = cc
alike (suc zero) (suc zero) h k e = refl
alike (suc (suc x)) y h k e = absurd (omega arith)
alike zero (suc (suc y)) h k e = absurd (omega arith)
alike (suc zero) (suc (suc y)) h k e = absurd (omega arith)

-- ---- one operation

pub bit-and : (a b k : ℕ) → bit (bit_and a b) k ≡ (bit a k && bit b k)
unfolding bit
bit-and a b k = ap (λ n. n == 1) (bit_at_and a b k) ∙ both_set (bit_at a k) (bit_at b k) (bit_at-lt a k) (bit_at-lt b k)

pub bit-or : (a b k : ℕ) → bit (bit_or a b) k ≡ (bit a k || bit b k)
unfolding bit
bit-or a b k = ap (λ n. n == 1) (bit_at_or a b k) ∙ one_set (bit_at a k) (bit_at b k) (bit_at-lt a k) (bit_at-lt b k)

pub bit-not : (a k : ℕ) → a < 2 ^ 64 → k < 64 → bit (2 ^ 64 - 1 - a) k ≡ not (bit a k)
unfolding bit
bit-not a k fits lt = ap (λ n. n == 1) (bit_at_not w64 a k fits lt) ∙ not_set (bit_at a k) (bit_at-lt a k)

-- the difference of two bits
abbrev pub differ : Bool → Bool → Bool
differ true b = not b
differ false b = b

odd_sum : (x y : ℕ) → x < 2 → y < 2 → ((x + y) % 2 == 1) ≡ differ (x == 1) (y == 1)
odd_sum zero zero h k = refl
odd_sum zero (suc zero) h k = refl
odd_sum (suc zero) zero h k = refl
odd_sum (suc zero) (suc zero) h k = refl
odd_sum (suc (suc x)) y h k = absurd (omega arith)
odd_sum zero (suc (suc y)) h k = absurd (omega arith)
odd_sum (suc zero) (suc (suc y)) h k = absurd (omega arith)

pub bit-differ : (a b k : ℕ) → bit (bit_xor a b) k ≡ differ (bit a k) (bit b k)
unfolding bit
bit-differ a b k = ap (λ n. n == 1) (bit_at_xor a b k) ∙ odd_sum (bit_at a k) (bit_at b k) (bit_at-lt a k) (bit_at-lt b k)

-- a shift to the right
pub bit-shr : (a k j : ℕ) → bit (a / 2 ^ k) j ≡ bit a (k + j)
unfolding bit
bit-shr a k j = ap (λ n. n % 2 == 1) (shr-shr a k j)

-- where the difference of two words has no bit, they agree
pub bit-xor : (a b k : ℕ) → bit (bit_xor a b) k ≡ false → bit a k ≡ bit b k
unfolding bit
bit-xor a b k h = alike (bit_at a k) (bit_at b k) (bit_at-lt a k) (bit_at-lt b k) (ap (λ n. n == 1) (sym (bit_at_xor a b k)) ∙ h)

pub bit-none : (k : ℕ) → bit 0 k ≡ false
unfolding bit
bit-none k = ap (λ n. n == 1) (bit_at-zero k)

-- a shift to the right by one
pub bit-down : (a k : ℕ) → bit (a / 2) k ≡ bit a (suc k)
unfolding bit
bit-down a k = ap (λ n. n == 1) (sym (bit_at-suc a k))

pub bit-mask : (p : ℕ → Bool) (v : List ℕ) (k : ℕ) → k < length v → bit (mask_l (map p v)) k ≡ p (get_or v k 0)
unfolding bit
bit-mask p v k lt = ap (λ n. n == 1) (bit_mask_l (map p v) k) ∙ back (get_or (map p v) k false) ∙ lane p v k lt
  where
    back : (b : Bool) → (cond {A = ℕ} b 1 0 == 1) ≡ b
    back true = refl
    back false = refl

    lane : (p : ℕ → Bool) (v : List ℕ) (k : ℕ) → k < length v → get_or (map p v) k false ≡ p (get_or v k 0)
    lane p [] k lt = absurd (omega arith)
    lane p (x ∷ v) zero lt = refl
    lane p (x ∷ v) (suc k) lt = lane p v k (omega arith)

-- ---- shifts to the left

-- a word has the lowest bits of a number
bit-mod : (n k : ℕ) → k < 64 → bit (n % 2 ^ 64) k ≡ bit n k
unfolding bit
bit-mod n k lt = ap (λ n. n == 1) (sym (bit_at_cat_low (n / 2 ^ 64) 64 (n % 2 ^ 64) k lt) ∙ ap (λ n. bit_at n k) (shr_split n 64))

pub bit-up : (a j k : ℕ) → k + j < 64 → bit (a * 2 ^ j % 2 ^ 64) (k + j) ≡ bit a k
unfolding bit
bit-up a j k lt =
    let more : a * 2 ^ j ≡ a * 2 ^ j + 0 = omega arith in
    let back : k + j - j ≡ k = omega arith in
    bit-mod (a * 2 ^ j) (k + j) lt ∙ ap (λ n. n == 1) (ap (λ n. bit_at n (k + j)) more ∙ bit_at_cat_high a j 0 (k + j) (pow_pos j) (omega arith) ∙ ap (bit_at a) back)

pub bit-up_first : (a : ℕ) → bit (a * 2 % 2 ^ 64) 0 ≡ false
unfolding bit
bit-up_first a = let even : a * 2 % 2 ^ 64 % 2 ≡ 0 = omega arith in ap (λ n. n == 1) (bit_at_lowest (a * 2 % 2 ^ 64) ∙ even)

-- ---- the lowest bit

-- one less than a word has the same bits above its lowest one
above_set : (k w m : ℕ) → suc m ≡ w → bit_at w k ≡ 1 → w / 2 ^ suc k ≡ m / 2 ^ suc k
above_set zero w m e h = let odd = sym (bit_at_lowest w) ∙ h in omega (arith, odd)
above_set (suc k) w m e h =
    let half : bit_at (w / 2) k ≡ 1 = sym (bit_at-suc w k) ∙ h in
    let more : 1 + suc k ≡ suc (suc k) = omega arith in
    let halved : (n : ℕ) → n / 2 / 2 ^ suc k ≡ n / 2 ^ suc (suc k) = λ n. shr-shr n 1 (suc k) ∙ ap (λ i. n / 2 ^ i) more in
    sym (halved w) ∙ by_half (zero_or_one (w % 2) (omega arith)) (λ is. above_set k (w / 2) (m / 2) is half) (some (w / 2) half) ∙ halved m
  where
    some : (n : ℕ) → bit_at n k ≡ 1 → 0 < n
    some zero h = let none = bit_at-zero k in absurd (omega (arith, none))
    some (suc n) h = omega arith

    by_half : (w % 2 ≡ 0) ⊎ (w % 2 ≡ 1) → (suc (m / 2) ≡ w / 2 → w / 2 / 2 ^ suc k ≡ m / 2 / 2 ^ suc k) → 0 < w / 2 → w / 2 / 2 ^ suc k ≡ m / 2 / 2 ^ suc k
    by_half (inl even) halved many = halved (omega (arith, many))
    by_half (inr odd) halved many = let e : w / 2 ≡ m / 2 = omega arith in ap (λ n. n / 2 ^ suc k) e

-- no bit is set above the lowest one where a word and one less than it differ
pub no_difference_above : (w m k r : ℕ) → suc m ≡ w → k < r → bit w k ≡ true → bit (bit_xor w m) r ≡ false
unfolding bit
no_difference_above w m k r e lt h =
    let rest : suc k + (r - suc k) ≡ r = omega arith in
    let high : (n : ℕ) → n / 2 ^ suc k / 2 ^ (r - suc k) ≡ n / 2 ^ r = λ n. shr-shr n (suc k) (r - suc k) ∙ ap (λ i. n / 2 ^ i) rest in
    let set : bit_at w k ≡ 1 = grind (arith, nat_tests) in
    let same : bit_at w r ≡ bit_at m r = ap (λ n. n % 2) (sym (high w) ∙ ap (λ n. n / 2 ^ (r - suc k)) (above_set k w m e set) ∙ high m) in
    ap (λ n. n == 1) (bit_at_xor w m r) ∙ even (bit_at w r) (bit_at m r) same
  where
    even : (x y : ℕ) → x ≡ y → ((x + y) % 2 == 1) ≡ false
    even x y e = let z : (x + y) % 2 ≡ 0 = omega arith in ap (λ n. n == 1) z

-- the highest bit of a word
pub highest_set : (w r : ℕ) → 2 ^ r ≤ w → w < 2 * 2 ^ r → bit w r ≡ true
unfolding bit
highest_set w r low high =
    let e : w ≡ 1 * 2 ^ r + (w - 2 ^ r) = omega arith in
    ap (λ n. n % 2 == 1) (ap (λ n. n / 2 ^ r) e ∙ shr_high 1 r (w - 2 ^ r) (omega arith))

-- the four bits above each one
pub four_up : (a k j : ℕ) → 1 ≤ j → j ≤ 4 → k + j < 64 → bit a k ≡ true
    → bit (bit_or (bit_or (bit_or (a * 2 % 2 ^ 64) (a * 4 % 2 ^ 64)) (a * 8 % 2 ^ 64)) (a * 16 % 2 ^ 64)) (k + j) ≡ true
four_up a k zero low high lt h = absurd (omega arith)
four_up a k (suc zero) low high lt h = bit-or _ _ (k + 1) ∙ or_left _ _ (bit-or _ _ (k + 1) ∙ or_left _ _ (bit-or _ _ (k + 1) ∙ or_left _ _ (bit-up a 1 k lt ∙ h)))
four_up a k (suc (suc zero)) low high lt h = bit-or _ _ (k + 2) ∙ or_left _ _ (bit-or _ _ (k + 2) ∙ or_left _ _ (bit-or _ _ (k + 2) ∙ or_right _ _ (bit-up a 2 k lt ∙ h)))
four_up a k (suc (suc (suc zero))) low high lt h = bit-or _ _ (k + 3) ∙ or_left _ _ (bit-or _ _ (k + 3) ∙ or_right _ _ (bit-up a 3 k lt ∙ h))
four_up a k (suc (suc (suc (suc zero)))) low high lt h = bit-or _ _ (k + 4) ∙ or_right _ _ (bit-up a 4 k lt ∙ h)
four_up a k (suc (suc (suc (suc (suc j))))) low high lt h = absurd (omega arith)
