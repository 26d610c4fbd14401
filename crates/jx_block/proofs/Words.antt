-- Bits of words.
use Rattle.std.proofs.Common.{◌≡◌, ◌≢◌, ℕ, zero, suc, ◌+◌, ◌-◌, ◌*◌, ◌/◌, ◌%◌, ◌^◌, ◌<◌, ◌≤◌, Bool, true, false, not, refl, sym, ap, ◌∙◌, ◌⊎◌, inl, inr, arith, w64, bit_and, List, length, get_or, map}
use Rattle.std.specs.Prelude.{◌==◌, ◌&&◌, ◌||◌}
use Rattle.std.specs.Int.{bit_at, trailing_zeros}
use Rattle.std.specs.Simd.Lanes.{mask_l}
use Rattle.std.proofs.lemmas.Bool.{cases_lt}
use Rattle.std.proofs.lemmas.Nat.{pow_pos}
use Rattle.std.proofs.lemmas.Nat.Bits.{bit_at-trailing_zeros, bit_at_above, bit_at_lowest, bit_at-suc, bit_at-zero, ones_shr, bit_at_ones}
use Rattle.jx_lex.specs.inside.Bits.{bit}
use Rattle.jx_lex.proofs.Bits.{bit-and, bit-mask, bit-xor, bit-up, no_difference_above}

-- the lowest n bits
pub bit-low : (n k : ℕ) → n ≤ 64 → k < n → bit ((2 ^ 64 - 1) / 2 ^ (64 - n)) k ≡ true
unfolding bit
bit-low n k le lt =
    let e : 64 - (64 - n) ≡ n = omega arith in
    ap (λ m. bit_at m k == 1) (ones_shr 64 (64 - n) (omega arith) ∙ ap (λ m. 2 ^ m - 1) e) ∙ ap (λ m. m == 1) (bit_at_ones n k lt)

-- the lowest bits of a word, up to one of them
pub low_at : (k j : ℕ) → k < 64 → j ≤ k → bit ((2 ^ 64 - 1) / 2 ^ (63 - k)) j ≡ true
low_at k j lt le =
    let e : 64 - (k + 1) ≡ 63 - k = omega arith in
    ap (λ m. bit ((2 ^ 64 - 1) / 2 ^ m) j) (sym e) ∙ bit-low (k + 1) j (omega arith) (omega arith)

pub high_at : (k j : ℕ) → k < 64 → k < j → bit ((2 ^ 64 - 1) / 2 ^ (63 - k)) j ≡ false
unfolding bit
high_at k j lt more =
    let e : 64 - (63 - k) ≡ k + 1 = omega arith in
    let w : (2 ^ 64 - 1) / 2 ^ (63 - k) ≡ 2 ^ (k + 1) - 1 = ones_shr 64 (63 - k) (omega arith) ∙ ap (λ m. 2 ^ m - 1) e in
    ap (λ n. n == 1) (bit_at_above ((2 ^ 64 - 1) / 2 ^ (63 - k)) (k + 1) j (omega (arith, w, pow_pos (k + 1))) (omega arith))

pub or_none : (a : Bool) → (a || false) ≡ a
or_none true = refl
or_none false = refl

-- one bit
pub bit-one : (k : ℕ) → k < 64 → bit (1 * 2 ^ k % 2 ^ 64) k ≡ true
unfolding bit
bit-one k lt = let e : 0 + k ≡ k = omega arith in ap (bit (1 * 2 ^ k % 2 ^ 64)) (sym e) ∙ bit-up 1 k 0 (omega arith)

-- the lowest set bit
pub lowest_set : (w : ℕ) → 0 < w → w < 2 ^ 64
    → (trailing_zeros w64 w < 64) × (bit w (trailing_zeros w64 w) ≡ true) × ((j : ℕ) → j < trailing_zeros w64 w → bit w j ≡ false)
unfolding bit
lowest_set w some fits =
    let h = bit_at-trailing_zeros w64 w some fits in
    (h.0, ap (λ n. n == 1) h.1, λ j lt. ap (λ n. n == 1) (h.2 j lt))

both : (a b : Bool) → a ≡ b → a ≡ true → (a && b) ≡ true
both a b e h = ap (λ x. x && b) h ∙ sym e ∙ h

-- without its lowest bit a word has all its others
pub only_lowest : (w m k j : ℕ) → suc m ≡ w → bit w k ≡ true → ((i : ℕ) → i < k → bit w i ≡ false) → bit w j ≡ true → bit (bit_and w m) j ≡ false → j ≡ k
only_lowest w m k j e low none set cleared = by_order (cases_lt k j) (cases_lt j k)
  where
    by_order : (k < j) ⊎ (j ≤ k) → (j < k) ⊎ (k ≤ j) → j ≡ k
    by_order (inl lt) o =
        let same : bit w j ≡ bit m j = bit-xor w m j (no_difference_above w m k j e lt low) in
        let clash : true ≡ false = sym (both (bit w j) (bit m j) same set) ∙ sym (bit-and w m j) ∙ cleared in
        cc
    by_order (inr le) (inl lt) = let clash : true ≡ false = sym set ∙ none j lt in cc
    by_order (inr le) (inr ge) = omega arith

pub and_true : (a : Bool) → (a && true) ≡ a
and_true true = refl
and_true false = refl

pub low_kept : (a b k : ℕ) → bit (bit_and a b) k ≡ true → bit a k ≡ true
low_kept a b k h = of_both (bit a k) (bit b k) (sym (bit-and a b k) ∙ h)
  where
    of_both : (x y : Bool) → (x && y) ≡ true → x ≡ true
    of_both true y h = refl
    of_both false y h = cc

-- one less than a word has a zero where the word has its lowest one
bit_below : (k w m : ℕ) → suc m ≡ w → bit_at w k ≡ 1 → ((j : ℕ) → j < k → bit_at w j ≡ 0) → bit_at m k ≡ 0
bit_below zero w m e set none = let odd = sym (bit_at_lowest w) ∙ set in bit_at_lowest m ∙ omega (arith, odd)
bit_below (suc k) w m e set none =
    let even = sym (bit_at_lowest w) ∙ none 0 (omega arith) in
    let half : bit_at (w / 2) k ≡ 1 = sym (bit_at-suc w k) ∙ set in
    let more = some (w / 2) half in
    bit_at-suc m k ∙ bit_below k (w / 2) (m / 2) (omega (arith, even, more)) half (λ j lt. sym (bit_at-suc w j) ∙ none (suc j) (omega arith))
  where
    some : (n : ℕ) → bit_at n k ≡ 1 → 0 < n
    some zero h = let none = bit_at-zero k in absurd (omega (arith, none))
    some (suc n) h = omega arith

-- a word and what is left of it without its lowest bit
pub record Cleared (w v k : ℕ) : Type 0 where
  pub none : (j : ℕ) → j < k → bit w j ≡ false
  pub set : bit w k ≡ true
  pub here : bit v k ≡ false
  pub others : (j : ℕ) → j ≢ k → bit v j ≡ bit w j

and_same : (a b : Bool) → a ≡ b → (a && b) ≡ a
and_same true b e = sym e
and_same false b e = refl

pub cleared : (w : ℕ) → 0 < w → w < 2 ^ 64 → Cleared w (bit_and w (w - 1)) (trailing_zeros w64 w)
unfolding bit
cleared w some fits =
    let low = bit_at-trailing_zeros w64 w some fits in
    let set = lowest_set w some fits in
    let e : suc (w - 1) ≡ w = omega arith in
    record {
      none = set.2;
      set = set.1;
      here =
          bit-and w (w - 1) (trailing_zeros w64 w) ∙ ap (λ t. bit w (trailing_zeros w64 w) && t) (ap (λ n. n == 1) (bit_below (trailing_zeros w64 w) w (w - 1) e low.1 low.2))
          ∙ and_none (bit w (trailing_zeros w64 w));
      others = λ j apart. bit-and w (w - 1) j ∙ by_order j (cases_lt j (trailing_zeros w64 w)) (cases_lt (trailing_zeros w64 w) j) apart;
    }
  where
    and_none : (a : Bool) → (a && false) ≡ false
    and_none true = refl
    and_none false = refl

    by_order : (j : ℕ) → (j < trailing_zeros w64 w) ⊎ (trailing_zeros w64 w ≤ j) → (trailing_zeros w64 w < j) ⊎ (j ≤ trailing_zeros w64 w) → j ≢ trailing_zeros w64 w → (bit w j && bit (w - 1) j) ≡ bit w j
    by_order j (inl before) o apart = let none = (lowest_set w some fits).2 j before in ap (λ t. t && bit (w - 1) j) none ∙ sym none
    by_order j (inr past) (inl after) apart =
        let e : suc (w - 1) ≡ w = omega arith in
        and_same (bit w j) (bit (w - 1) j) (bit-xor w (w - 1) j (no_difference_above w (w - 1) (trailing_zeros w64 w) j e after (lowest_set w some fits).1))
    by_order j (inr past) (inr before) apart = absurd (apart (omega arith))

-- without its lowest bit a word has none up to there
pub none_left : (left k : ℕ) → Cleared left (bit_and left (left - 1)) k → (j : ℕ) → j < k + 1 → bit (bit_and left (left - 1)) j ≡ false
none_left left k cl j lt = by_order (cases_lt j k)
  where
    by_order : (j < k) ⊎ (k ≤ j) → bit (bit_and left (left - 1)) j ≡ false
    by_order (inl less) = cl.others j (omega arith) ∙ cl.none j less
    by_order (inr more) = let e : j ≡ k = omega arith in ap (bit (bit_and left (left - 1))) e ∙ cl.here

-- the lowest bit that is left stands behind all that were walked over
pub not_before : (left from k : ℕ) → ((j : ℕ) → j < from → bit left j ≡ false) → bit left k ≡ true → from ≤ k
not_before left from k none set = by_order (cases_lt k from)
  where
    by_order : (k < from) ⊎ (from ≤ k) → from ≤ k
    by_order (inr le) = le
    by_order (inl lt) = let clash : true ≡ false = sym set ∙ none k lt in cc

-- where a bit is set and none is left, it is among the others
pub left_none : (s a : Bool) → (s && not a) ≡ false → s ≡ true → a ≡ true
left_none true true h e = e
left_none true false h e = absurd cc
left_none false a h e = absurd cc

-- a test of the lanes of a block
pub lane : (p : ℕ → Bool) (v : List ℕ) (w k : ℕ) → length v ≡ 64 → w ≡ mask_l (map p v) → k < 64 → bit w k ≡ p (get_or v k 0)
lane p v w k long is lt = ap (λ w. bit w k) is ∙ bit-mask p v k (omega (arith, long))

pub regroup : (x d e f : Bool) → (x || ((d || e) || f)) ≡ (((x || d) || e) || f)
regroup true d e f = refl
regroup false d e f = refl
