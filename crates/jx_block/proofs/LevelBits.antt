-- The lowest level of bytes at which words have bits, from bracket to bracket.
use Rattle.std.proofs.Common.{◌≡◌, ◌⊎◌, inl, inr, ℕ, zero, suc, ◌+◌, ◌-◌, ◌%◌, ◌^◌, ◌<◌, ◌≤◌, Bool, true, false, refl, ap, sym, subst, ◌∙◌, arith, bit_and}
use Rattle.std.specs.Prelude.{◌==◌, ◌&&◌, ◌||◌}
use Rattle.std.specs.Int.RustNames.{count_ones}
use Rattle.std.proofs.lemmas.Bool.{cases_lt, or_parts}
use Rattle.std.proofs.lemmas.Bool.Decides.{nat_tests}
use Rattle.jx_lex.specs.Counts.{Levels, seen_there}
use Rattle.jx_lex.specs.inside.Bits.{bit}
use Rattle.jx_lex.proofs.Bits.{bit-and}
use Rattle.jx_lex.proofs.Levels.{closing_above, closing_below, seen_above, seen_below, seen_none, seen_twice}
use Rattle.jx_block.specs.Listed.{is_set}
use Rattle.jx_block.specs.inside.Levels.{HasLowest, levels_to, moved, one_if, ones}
use Rattle.jx_block.proofs.BitCounts.{no_bits, ones-cut, ones-more}
use Rattle.jx_block.proofs.Words.{and_true}

-- ---- bits before a place

pub ones-rise : (w a d : ℕ) → ones w a ≤ ones w (a + d)
ones-rise w a zero = let e : a ≡ a + 0 = omega arith in subst (λ (n : ℕ). ones w a ≤ ones w n) e (omega arith)
ones-rise w a (suc d) =
    let e : a + d + 1 ≡ a + suc d = omega arith in
    let rest = ones-rise w a d in
    let more = ones-more w (a + d) in
    subst (λ (n : ℕ). ones w a ≤ ones w n) e (omega (arith, rest, more))

pub ones-rises : (w a b : ℕ) → a ≤ b → ones w a ≤ ones w b
ones-rises w a b le = let e : a + (b - a) ≡ b = omega arith in subst (λ (n : ℕ). ones w a ≤ ones w n) e (ones-rise w a (b - a))

-- all bits of a word
pub ones-full : (w : ℕ) → w < 2 ^ 64 → count_ones w ≡ ones w 64
ones-full w fits = let all : w ≡ w % 2 ^ 64 = omega arith in ap count_ones all

-- ---- from bracket to bracket

moved-bracket : (o c : Bool) (l : Levels) → (o || c) ≡ true → moved o c l ≡ moved o true l
moved-bracket true c l h = refl
moved-bracket false true l h = refl
moved-bracket false false l h = cc

module _ (o c m v : ℕ) where
  abbrev to : ℕ → Levels
  to n = levels_to o c m v n

  none_moved : (n : ℕ) (l : Levels) → (is_set o n || is_set c n) ≡ false → moved (is_set o n) (is_set c n) l ≡ l
  none_moved n l h = let p = or_parts (is_set o n) (is_set c n) h in (λ i. moved (p.0 i) (p.1 i) l)

  pub levels-along : (a d x y : ℕ) → ((j : ℕ) → a ≤ j → j < a + d → (is_set o j || is_set c j) ≡ false) → ones m (a + d) ≡ ones m a + x → ones v (a + d) ≡ ones v a + y
      → to (a + d) ≡ seen_there x y (to a)
  levels-along a zero x y none e f =
      let same : a + 0 ≡ a = omega arith in
      let me = ap (ones m) same in
      let ve = ap (ones v) same in
      let x0 : 0 ≡ x = omega (arith, e, me) in
      let y0 : 0 ≡ y = omega (arith, f, ve) in
      ap to same ∙ sym (seen_none (to a)) ∙ (λ i. seen_there (x0 i) (y0 i) (to a))
  levels-along a (suc d) x y none e f =
      let n = a + d in
      let next : a + suc d ≡ suc (a + d) = omega arith in
      let one : a + suc d ≡ a + d + 1 = omega arith in
      let me = ap (ones m) one ∙ ones-more m n in
      let ve = ap (ones v) one ∙ ones-more v n in
      let mr = ones-rise m a d in
      let vr = ones-rise v a d in
      let was = levels-along a d (ones m n - ones m a) (ones v n - ones v a) (λ j le lt. none j le (omega arith)) (omega (arith, mr)) (omega (arith, vr)) in
      let xs : (ones m n - ones m a) + one_if (is_set m n) ≡ x = omega (arith, e, me, mr) in
      let ys : (ones v n - ones v a) + one_if (is_set v n) ≡ y = omega (arith, f, ve, vr) in
      ap to next
      ∙ none_moved n (seen_there (one_if (is_set m n)) (one_if (is_set v n)) (to n)) (none n (omega arith) (omega arith))
      ∙ ap (seen_there (one_if (is_set m n)) (one_if (is_set v n))) was
      ∙ seen_twice (one_if (is_set m n)) (one_if (is_set v n)) (ones m n - ones m a) (ones v n - ones v a) (to a)
      ∙ (λ i. seen_there (xs i) (ys i) (to a))

  -- over a bracket
  pub levels-over : (from k : ℕ) → from ≤ k → ((j : ℕ) → from ≤ j → j < k → (is_set o j || is_set c j) ≡ false) → (is_set o k || is_set c k) ≡ true
      → to (k + 1) ≡ moved (is_set o k) true (seen_there (ones m (k + 1) - ones m from) (ones v (k + 1) - ones v from) (to from))
  levels-over from k le none bracket =
      let e : from + (k - from) ≡ k = omega arith in
      let next : k + 1 ≡ suc k = omega arith in
      let mr = ones-rises m from k le in
      let vr = ones-rises v from k le in
      let me = ones-more m k in
      let ve = ones-more v k in
      let mk = ap (ones m) e in
      let vk = ap (ones v) e in
      let was : to k ≡ seen_there (ones m k - ones m from) (ones v k - ones v from) (to from) =
      ap to (sym e) ∙ levels-along from (k - from) (ones m k - ones m from) (ones v k - ones v from) (λ j low high. none j low (omega arith)) (omega (arith, mr, mk)) (omega (arith, vr, vk)) in
      let xs : (ones m k - ones m from) + one_if (is_set m k) ≡ ones m (k + 1) - ones m from = omega (arith, me, mr) in
      let ys : (ones v k - ones v from) + one_if (is_set v k) ≡ ones v (k + 1) - ones v from = omega (arith, ve, vr) in
      ap to next
      ∙ moved-bracket (is_set o k) (is_set c k) (seen_there (one_if (is_set m k)) (one_if (is_set v k)) (to k)) bracket
      ∙ ap (λ (l : Levels). moved (is_set o k) true (seen_there (one_if (is_set m k)) (one_if (is_set v k)) l)) was
      ∙ ap (λ (l : Levels). moved (is_set o k) true l) (seen_twice (one_if (is_set m k)) (one_if (is_set v k)) (ones m k - ones m from) (ones v k - ones v from) (to from))
      ∙ (λ i. moved (is_set o k) true (seen_there (xs i) (ys i) (to from)))

  -- behind the last bit
  pub levels-cut : (n d : ℕ) → ((k : ℕ) → n ≤ k → k < n + d → (is_set o k ≡ false) × (is_set c k ≡ false) × (is_set m k ≡ false) × (is_set v k ≡ false)) → to (n + d) ≡ to n
  levels-cut n zero none = let e : n + 0 ≡ n = omega arith in ap to e
  levels-cut n (suc d) none =
      let e : n + suc d ≡ suc (n + d) = omega arith in
      let p = none (n + d) (omega arith) (omega arith) in
      ap to e
      ∙ (λ i. moved (p.0 i) (p.1 i) (seen_there (one_if (p.2 i)) (one_if (p.3 i)) (to (n + d))))
      ∙ seen_none (to (n + d))
      ∙ levels-cut n d (λ k low high. none k low (omega arith))

-- ---- bytes in a mask

set-and : (a b k : ℕ) → is_set (bit_and a b) k ≡ (is_set a k && is_set b k)
unfolding bit
set-and a b k = bit-and a b k

and_none : (a : Bool) → (a && false) ≡ false
and_none true = refl
and_none false = refl

ones-same : (w u n : ℕ) → ((j : ℕ) → j < n → is_set w j ≡ is_set u j) → ones w n ≡ ones u n
ones-same w u zero same = no_bits w ∙ sym (no_bits u)
ones-same w u (suc n) same =
    let e : suc n ≡ n + 1 = omega arith in
    let one = ap (ones w) e ∙ ones-more w n in
    let other = ap (ones u) e ∙ ones-more u n in
    let rest = ones-same w u n (λ j lt. same j (omega arith)) in
    let bit = ap one_if (same n (omega arith)) in
    omega (arith, one, other, rest, bit)

-- where the mask stays the same
ones-kept : (w a b n : ℕ) → ((j : ℕ) → j < n → is_set b j ≡ is_set a j) → ones (bit_and w b) n ≡ ones (bit_and w a) n
ones-kept w a b n same = ones-same (bit_and w b) (bit_and w a) n (λ j lt. set-and w b j ∙ ap (λ t. is_set w j && t) (same j lt) ∙ sym (set-and w a j))

masked-in : (w b a d : ℕ) → ((j : ℕ) → a ≤ j → j < a + d → is_set b j ≡ true) → ones (bit_and w b) (a + d) + ones w a ≡ ones (bit_and w b) a + ones w (a + d)
masked-in w b a zero all =
    let e : a + 0 ≡ a = omega arith in
    let x = ap (ones (bit_and w b)) e in
    let y = ap (ones w) e in
    omega (arith, x, y)
masked-in w b a (suc d) all =
    let n = a + d in
    let e : a + suc d ≡ a + d + 1 = omega arith in
    let more = ap (ones (bit_and w b)) e ∙ ones-more (bit_and w b) n in
    let whole = ap (ones w) e ∙ ones-more w n in
    let bit = ap one_if (set-and w b n ∙ ap (λ t. is_set w n && t) (all n (omega arith) (omega arith)) ∙ and_true (is_set w n)) in
    let rest = masked-in w b a d (λ j le lt. all j le (omega arith)) in
    omega (arith, more, whole, bit, rest)

masked-out : (w b a d : ℕ) → ((j : ℕ) → a ≤ j → j < a + d → is_set b j ≡ false) → ones (bit_and w b) (a + d) ≡ ones (bit_and w b) a
masked-out w b a d none = ones-cut (bit_and w b) a d (λ k low high. set-and w b k ∙ ap (λ t. is_set w k && t) (none k low high) ∙ and_none (is_set w k))

-- ---- the bytes at the lowest level

-- the mask has all bytes from a place on, or none where the level is another
abbrev pub Goes_on : ℕ → ℕ → ℕ → Type 0
Goes_on n above bytes = (j : ℕ) → n ≤ j → j < 64 → is_set bytes j ≡ (above == 0)

-- no bracket comes
pub lowest-along : (m v a d lowest above bytes : ℕ) (l : Levels) → a + d ≤ 64 → Goes_on a above bytes → HasLowest m v a lowest above bytes l
    → HasLowest m v (a + d) lowest above bytes (seen_there (ones m (a + d) - ones m a) (ones v (a + d) - ones v a) l)
lowest-along m v a d lowest above bytes l le on h = by_place (cases_lt 0 above)
  where
    x : ℕ
    x = ones m (a + d) - ones m a

    y : ℕ
    y = ones v (a + d) - ones v a

    by_place : (0 < above) ⊎ (above ≤ 0) → HasLowest m v (a + d) lowest above bytes (seen_there x y l)
    by_place (inl some) =
        let above_is = h.above_is in
        let e = seen_above x y l (omega (arith, above_is, some)) in
        let t : (above == 0) ≡ false = grind (arith, nat_tests) in
        let none : (j : ℕ) → a ≤ j → j < a + d → is_set bytes j ≡ false = λ j low high. on j low (omega (arith, le, high)) ∙ t in
        record {
          lowest_is = h.lowest_is ∙ sym (ap (λ (x : Levels). x.lowest) e);
          above_is = h.above_is ∙ sym (ap (λ (x : Levels). x.above) e);
          commas_are = masked-out m bytes a d none ∙ h.commas_are ∙ sym (ap (λ (x : Levels). x.commas) e);
          values_are = masked-out v bytes a d none ∙ h.values_are ∙ sym (ap (λ (x : Levels). x.values) e);
        }
    by_place (inr none) =
        let above_is = h.above_is in
        let e = seen_below x y l (omega (arith, above_is, none)) in
        let t : (above == 0) ≡ true = grind (arith, nat_tests) in
        let all : (j : ℕ) → a ≤ j → j < a + d → is_set bytes j ≡ true = λ j low high. on j low (omega (arith, le, high)) ∙ t in
        let mi = masked-in m bytes a d all in
        let vi = masked-in v bytes a d all in
        let mr = ones-rise m a d in
        let vr = ones-rise v a d in
        let mh = h.commas_are in
        let vh = h.values_are in
        let mc : ones (bit_and m bytes) (a + d) ≡ l.commas + x = omega (arith, mi, mr, mh) in
        let vc : ones (bit_and v bytes) (a + d) ≡ l.values + y = omega (arith, vi, vr, vh) in
        record {
          lowest_is = h.lowest_is ∙ sym (ap (λ (x : Levels). x.lowest) e);
          above_is = h.above_is ∙ sym (ap (λ (x : Levels). x.above) e);
          commas_are = mc ∙ sym (ap (λ (x : Levels). x.commas) e);
          values_are = vc ∙ sym (ap (λ (x : Levels). x.values) e);
        }

-- behind a bracket: one that opens a container, one that closes one which was opened, and one that falls to a new lowest level
module _ (m v n lowest above bytes : ℕ) (s : Levels) (h : HasLowest m v n lowest above bytes s) (mask : ℕ) where
  pub lowest-opened : ((j : ℕ) → j < n → is_set mask j ≡ is_set bytes j) → HasLowest m v n lowest (above + 1) mask (moved true true s)
  lowest-opened same =
      let above_is = h.above_is in
      record {
        lowest_is = h.lowest_is;
        above_is = omega (arith, above_is);
        commas_are = ones-kept m bytes mask n same ∙ h.commas_are;
        values_are = ones-kept v bytes mask n same ∙ h.values_are;
      }

  pub lowest-closed : 0 < above → ((j : ℕ) → j < n → is_set mask j ≡ is_set bytes j) → HasLowest m v n lowest (above - 1) mask (moved false true s)
  lowest-closed some same =
      let above_is = h.above_is in
      let e = closing_above s (omega (arith, above_is, some)) in
      let low = ap (λ (x : Levels). x.above) e in
      record {
        lowest_is = h.lowest_is ∙ sym (ap (λ (x : Levels). x.lowest) e);
        above_is = omega (arith, above_is, low);
        commas_are = ones-kept m bytes mask n same ∙ h.commas_are ∙ sym (ap (λ (x : Levels). x.commas) e);
        values_are = ones-kept v bytes mask n same ∙ h.values_are ∙ sym (ap (λ (x : Levels). x.values) e);
      }

  pub lowest-fell : above ≡ 0 → ((j : ℕ) → j < n → is_set mask j ≡ false) → HasLowest m v n (lowest + 1) 0 mask (moved false true s)
  lowest-fell none off =
      let above_is = h.above_is in
      let lowest_is = h.lowest_is in
      let e = closing_below s (omega (arith, above_is, none)) in
      let low = ap (λ (x : Levels). x.lowest) e in
      let zero : 0 + n ≡ n = omega arith in
      let empty : (w : ℕ) → ones (bit_and w mask) n ≡ 0 =
      λ w. ap (ones (bit_and w mask)) (sym zero) ∙ masked-out w mask 0 n (λ j low high. off j (omega (arith, high))) ∙ no_bits (bit_and w mask) in
      record {
        lowest_is = omega (arith, low, lowest_is);
        above_is = sym (ap (λ (x : Levels). x.above) e);
        commas_are = empty m ∙ sym (ap (λ (x : Levels). x.commas) e);
        values_are = empty v ∙ sym (ap (λ (x : Levels). x.values) e);
      }
