-- Whole escapes and ordinary ASCII in a block, found by words of bits, lead from inside a string back to there.
use Rattle.std.proofs.Common.{◌≡◌, ℕ, zero, suc, ◌+◌, ◌-◌, ◌/◌, ◌^◌, ◌<◌, ◌≤◌, Bool, true, false, not, List, [], ◌∷◌, length, take, drop, get_or, map, refl, ap, sym, subst, ◌∙◌, ◌⊎◌, inl, inr, arith, length-drop, bit_and, bit_or, bit_xor}
use Rattle.std.specs.Prelude.{◌==◌, ◌||◌, ◌&&◌, slice_range}
use Rattle.std.specs.Simd.Lanes.{mask_l}
use Rattle.std.proofs.lemmas.Bool.{cases_Bool, cases_lt, and_right, or_parts, and_from, not-false}
use Rattle.std.proofs.lemmas.Bool.Decides.{nat_tests}
use Rattle.std.proofs.lemmas.List.{get_or-drop}
use Rattle.std.proofs.lemmas.Nat.{or_lt, and_le_l}
use Rattle.jx_lex.specs.declared.alphabet.state.LexState.TheVariants as state
use Rattle.jx_lex.specs.inside.Bits.{bit}
use Rattle.jx_lex.specs.Uneventful.{Leads, is_plain, is_escaped, is_escape, is_hex, is_unit}
use Rattle.jx_lex.proofs.Bits.{bit-and, bit-or, bit-not, bit-xor, bit-down, bit-mask}
use Rattle.jx_lex.proofs.Running.{nothing_leads, Leads-join, plain_keeps}
use Rattle.jx_lex.proofs.Slices.{slice-first, slice-none}
use Rattle.jx_lex.proofs.StringChars.{escape_led, unit_led}

-- What the words of a block say of the bytes before its place n: where an escaped byte stands (e), and where a digit of an
-- escape of six bytes (d).
pub record Tells (v : List ℕ) (e d : ℕ → Bool) (n : ℕ) : Type 0 where
  pub few : n < 64
  pub first : e 0 ≡ false
  pub next : (k : ℕ) → k < n → e (suc k) ≡ ((get_or v k 0 == 0x5c) && not (e k))
  pub plain : (k : ℕ) → k < n → (get_or v k 0 == 0x5c) ≡ false → e k ≡ false → is_plain (get_or v k 0) ≡ true
  pub letter : (k : ℕ) → k < n → e k ≡ true → (is_escaped (get_or v k 0) || (get_or v k 0 == 0x75)) ≡ true
  pub digits : (k j : ℕ) → 1 ≤ j → j ≤ 4 → k + j < 64 → e k ≡ true → (get_or v k 0 == 0x75) ≡ true → d (k + j) ≡ true
  pub hex : (k : ℕ) → k < n → d k ≡ true → is_hex (get_or v k 0) ≡ true
  pub boundary : 0 < n → (e n ≡ false) × (d n ≡ false)

hex_is_no_backslash : (b : ℕ) → is_hex b ≡ true → (b == 0x5c) ≡ false
hex_is_no_backslash b h = grind (arith, nat_tests)

or_other : (a b : Bool) → (a || b) ≡ true → a ≡ false → b ≡ true
or_other true b h none = cc
or_other false b h none = h

-- a place where this holds is none where it does not
before : (p : ℕ → Bool) (k n : ℕ) → k ≤ n → p k ≡ true → p n ≡ false → k < n
before p k n le h none = by_order (cases_lt k n)
  where
    by_order : (k < n) ⊎ (n ≤ k) → k < n
    by_order (inl lt) = lt
    by_order (inr ge) =
        let e : k ≡ n = omega arith in
        let same : true ≡ false = sym h ∙ ap p e ∙ none in
        cc

-- ---- one step of a walk over the bytes

slice-take : (v : List ℕ) (p r m : ℕ) → r ≡ p + m → slice_range v p r ≡ take m (drop p v)
slice-take v p r m e = let f : r - p ≡ m = omega arith in ap (λ k. take k (drop p v)) f

at_place : (v : List ℕ) (p j k : ℕ) → k ≡ p + j → get_or v k 0 ≡ get_or (drop p v) j 0
at_place v p j k e = ap (λ k. get_or v k 0) e ∙ sym (get_or-drop p v j 0)

one_led : (v : List ℕ) (p : ℕ) → p < length v → is_plain (get_or v p 0) ≡ true → Leads state.Str (slice_range v p (p + 1)) state.Str
one_led v p lt h =
    let e : slice_range v p (p + 1) ≡ get_or v p 0 ∷ [] = slice-first v p (p + 1) 0 (omega arith) (omega arith) ∙ ap (λ l. get_or v p 0 ∷ l) (slice-none v (p + 1)) in
    subst (λ l. Leads state.Str l state.Str) (sym e) (state.Str, plain_keeps (get_or v p 0) (ap not h), refl)

two_led_at : (v : List ℕ) (p q r : ℕ) → q ≡ p + 1 → r ≡ p + 2 → r ≤ length v → is_escape (get_or v p 0) (get_or v q 0) ≡ true → Leads state.Str (slice_range v p r) state.Str
two_led_at v p q r eq er le h =
    let all = length-drop p v in
    let first = at_place v p 0 p (omega arith) in
    let second = at_place v p 1 q eq in
    subst (λ l. Leads state.Str l state.Str) (sym (slice-take v p r 2 er)) (escape_led (drop p v) (omega (arith, all)) (sym (ap (λ a. is_escape a (get_or v q 0)) first ∙ ap (is_escape (get_or (drop p v) 0 0)) second) ∙ h))

six_led_at : (v : List ℕ) (p : ℕ) → p + 6 ≤ length v
    → is_unit (get_or v p 0) (get_or v (p + 1) 0) (get_or v (p + 2) 0) (get_or v (p + 3) 0) (get_or v (p + 4) 0) (get_or v (p + 5) 0) ≡ true → Leads state.Str (slice_range v p (p + 6)) state.Str
six_led_at v p le h =
    let all = length-drop p v in
    let a = at_place v p 0 p (omega arith) in
    let b = at_place v p 1 (p + 1) refl in
    let c = at_place v p 2 (p + 2) refl in
    let d = at_place v p 3 (p + 3) refl in
    let e = at_place v p 4 (p + 4) refl in
    let f = at_place v p 5 (p + 5) refl in
    subst (λ l. Leads state.Str l state.Str) (sym (slice-take v p (p + 6) 6 refl)) (unit_led (drop p v) (omega (arith, all)) ((λ i. is_unit (sym a i) (sym b i) (sym c i) (sym d i) (sym e i) (sym f i)) ∙ h))

-- ---- the walk

module _ (v : List ℕ) (e d : ℕ → Bool) (n : ℕ) (long : length v ≡ 64) (tells : Tells v e d n) where
  -- a unit stands whole before n
  unit_within : (p : ℕ) → p + 1 < n → e (p + 1) ≡ true → (get_or v (p + 1) 0 == 0x75) ≡ true
      → (p + 6 ≤ n) × (is_hex (get_or v (p + 2) 0) ≡ true) × (is_hex (get_or v (p + 3) 0) ≡ true) × (is_hex (get_or v (p + 4) 0) ≡ true) × (is_hex (get_or v (p + 5) 0) ≡ true)
  unit_within p lt escaped letter =
      let few = tells.few in
      let ends = (tells.boundary (omega arith)).1 in
      let digit : (j k : ℕ) → 1 ≤ j → j ≤ 4 → k ≡ p + 1 + j → k ≤ n → (k < n) × (is_hex (get_or v k 0) ≡ true) =
      λ j k low high is le.
      let set : d k ≡ true = ap d is ∙ tells.digits (p + 1) j low high (omega arith) escaped letter in
      let within = before d k n le set ends in
      (within, tells.hex k within set) in
      let a = digit 1 (p + 2) (omega arith) (omega arith) (omega arith) (omega arith) in
      let b = digit 2 (p + 3) (omega arith) (omega arith) (omega arith) (omega (arith, a)) in
      let c = digit 3 (p + 4) (omega arith) (omega arith) (omega arith) (omega (arith, b)) in
      let f = digit 4 (p + 5) (omega arith) (omega arith) (omega arith) (omega (arith, c)) in
      (omega (arith, f), a.1, b.1, c.1, f.1)

  -- behind these places the next byte is not escaped
  after : (k r : ℕ) → r ≡ suc k → k < n → ((get_or v k 0 == 0x5c) && not (e k)) ≡ false → e r ≡ false
  after k r is lt none = ap e is ∙ tells.next k lt ∙ none

  escape_step : (p : ℕ) → p < n → e p ≡ false → (get_or v p 0 == 0x5c) ≡ true
      → (r : ℕ) × (p < r) × (r ≤ n) × (e r ≡ false) × Leads state.Str (slice_range v p r) state.Str
  escape_step p lt boundary backslash = by_letter (cases_Bool (is_escaped (get_or v (p + 1) 0)))
    where
      few : n < 64
      few = tells.few

      escaped : e (p + 1) ≡ true
      escaped = let is : p + 1 ≡ suc p = omega arith in ap e is ∙ tells.next p lt ∙ and_from _ _ backslash (ap not boundary)

      within : p + 1 < n
      within = before e (p + 1) n (omega arith) escaped (tells.boundary (omega arith)).0

      by_letter : (is_escaped (get_or v (p + 1) 0) ≡ true) ⊎ (is_escaped (get_or v (p + 1) 0) ≡ false)
          → (r : ℕ) × (p < r) × (r ≤ n) × (e r ≡ false) × Leads state.Str (slice_range v p r) state.Str
      by_letter (inl short) = (
        p + 2,
        omega arith,
        omega (arith, within),
        after (p + 1) (p + 2) (omega arith) within (and_right _ _ (ap not escaped)),
        two_led_at v p (p + 1) (p + 2) refl refl (omega (arith, within, few)) (and_from _ _ backslash short),
      )
      by_letter (inr long_one) =
          let letter = or_other _ _ (tells.letter (p + 1) within escaped) long_one in
          let u = unit_within p within escaped letter in
          let inside = u.0 in
          let last = after (p + 5) (p + 6) (omega arith) (omega (arith, inside)) (ap (λ x. x && not (e (p + 5))) (hex_is_no_backslash _ u.4)) in (
            p + 6,
            omega arith,
            inside,
            last,
            six_led_at v p (omega (arith, inside, few)) (and_from _ _ (and_from _ _ (and_from _ _ (and_from _ _ (and_from _ _ backslash letter) u.1) u.2) u.3) u.4),
          )

  step : (p : ℕ) → p < n → e p ≡ false → (r : ℕ) × (p < r) × (r ≤ n) × (e r ≡ false) × Leads state.Str (slice_range v p r) state.Str
  step p lt boundary = by_byte (cases_Bool (get_or v p 0 == 0x5c))
    where
      by_byte : ((get_or v p 0 == 0x5c) ≡ true) ⊎ ((get_or v p 0 == 0x5c) ≡ false)
          → (r : ℕ) × (p < r) × (r ≤ n) × (e r ≡ false) × Leads state.Str (slice_range v p r) state.Str
      by_byte (inl backslash) = escape_step p lt boundary backslash
      by_byte (inr other) = (
        p + 1,
        omega arith,
        omega arith,
        after p (p + 1) (omega arith) lt (ap (λ x. x && not (e p)) other),
        one_led v p (let few = tells.few in omega (arith, few)) (tells.plain p lt other boundary),
      )

  walk : (fuel p : ℕ) → n ≤ p + fuel → p ≤ n → e p ≡ false → Leads state.Str (slice_range v p n) state.Str
  walk zero p most le boundary = let same : n ≡ p = omega arith in subst (λ r. Leads state.Str (slice_range v p r) state.Str) (sym same) (nothing_leads v p)
  walk (suc fuel) p most le boundary = by_order (cases_lt p n) (λ r. walk fuel r)
    where
      by_order : (p < n) ⊎ (n ≤ p) → ((r : ℕ) → n ≤ r + fuel → r ≤ n → e r ≡ false → Leads state.Str (slice_range v r n) state.Str) → Leads state.Str (slice_range v p n) state.Str
      by_order (inr ge) on = let same : n ≡ p = omega arith in subst (λ r. Leads state.Str (slice_range v p r) state.Str) (sym same) (nothing_leads v p)
      by_order (inl lt) on =
          let s = step p lt boundary in
          let up = s.1 in
          let high = s.2 in
          Leads-join v p s.0 n (omega (arith, up)) high s.4 (on s.0 (omega (arith, up)) high s.3)

  pub told_leads : Leads state.Str (take n v) state.Str
  told_leads = subst (λ l. Leads state.Str l state.Str) (slice-take v 0 n n (omega arith)) (walk n 0 (omega arith) (omega arith) tells.first)

-- ---- what the words say

mask_at : (p : ℕ → Bool) (v : List ℕ) (m : ℕ) → length v ≡ 64 → m ≡ mask_l (map p v) → (k : ℕ) → k < 64 → bit m k ≡ p (get_or v k 0)
mask_at p v m long is k lt = ap (λ m. bit m k) is ∙ bit-mask p v k (omega (arith, long))

or_none : (y z k : ℕ) → bit (bit_or y z) k ≡ false → (bit y k ≡ false) × (bit z k ≡ false)
or_none y z k h = or_parts _ _ (sym (bit-or y z k) ∙ h)

without : (y z k : ℕ) → z < 2 ^ 64 → k < 64 → bit (bit_and y (2 ^ 64 - 1 - z)) k ≡ (bit y k && not (bit z k))
without y z k fits lt = bit-and y _ k ∙ ap (λ a. bit y k && a) (bit-not z k fits lt)

-- what one has and the other lacks
but_not : (a c : Bool) → (a && not c) ≡ false → c ≡ false → a ≡ false
but_not true true h none = none
but_not true false h none = h
but_not false c h none = refl

so : (a c : Bool) → (a && not c) ≡ false → a ≡ true → c ≡ true
so true true h set = refl
so true false h set = sym h
so false c h set = cc

pub digit_is_hex : (v : List ℕ) → length v ≡ 64 → (d h : ℕ) → h ≡ mask_l (map is_hex v) → h < 2 ^ 64
    → (k : ℕ) → k < 64 → bit d k ≡ true → bit (bit_and d (2 ^ 64 - 1 - h)) k ≡ false → is_hex (get_or v k 0) ≡ true
digit_is_hex v long d h is fits k lt set none = sym (mask_at is_hex v h long is k lt) ∙ so _ _ (sym (without d h k fits lt) ∙ none) set

-- The words of a block: b backslashes, u letters u, s short escapes, o no ordinary ASCII; e what is escaped, d the digits
-- that are asked for, x those of them that are none.
module _ (v : List ℕ) (long : length v ≡ 64) (b u s o e d x n : ℕ) (b_is : b ≡ mask_l (map (λ byte. byte == 0x5c) v)) (u_is : u ≡ mask_l (map (λ byte. byte == 0x75) v))
    (s_is : s ≡ mask_l (map is_escaped v)) (o_is : o ≡ mask_l (map (λ byte. not (is_plain byte)) v)) (b_fits : b < 2 ^ 64) (e_fits : e < 2 ^ 64) (s_fits : s < 2 ^ 64) where
  abbrev pub inside : ℕ
  inside = bit_or e d

  abbrev pub wrong : ℕ
  wrong = bit_or (bit_or (bit_or (bit_and o (2 ^ 64 - 1 - bit_or b e)) (bit_and e (2 ^ 64 - 1 - bit_or s (bit_and e u)))) (bit_xor (e / 2) (bit_and b (2 ^ 64 - 1 - e)))) x

  be_fits : bit_or b e < 2 ^ 64
  be_fits = or_lt 64 b e b_fits e_fits

  su_fits : bit_or s (bit_and e u) < 2 ^ 64
  su_fits = or_lt 64 s (bit_and e u) s_fits (let le = and_le_l e u in omega (arith, le, e_fits))

  pub words_tell : (few : n < 64) → bit e 0 ≡ false → ((k : ℕ) → k < n → bit wrong k ≡ false) → (0 < n → bit inside n ≡ false)
      → ((k j : ℕ) → 1 ≤ j → j ≤ 4 → k + j < 64 → bit (bit_and e u) k ≡ true → bit d (k + j) ≡ true)
      → ((k : ℕ) → k < 64 → bit d k ≡ true → bit x k ≡ false → is_hex (get_or v k 0) ≡ true) → Tells v (bit e) (bit d) n
  words_tell few first right stop four hexes = record {
    few = few;
    first = first;
    next = λ k lt.
        let below : k < 64 = omega (arith, few) in
        let parts = or_none _ _ k (or_none _ x k (right k lt)).0 in
        sym (bit-down e k) ∙ bit-xor (e / 2) _ k parts.1 ∙ without b e k e_fits below ∙ ap (λ a. a && not (bit e k)) (mask_at _ v b long b_is k below);
    plain = λ k lt other free.
        let below : k < 64 = omega (arith, few) in
        let parts = or_none _ _ k (or_none _ _ k (or_none _ x k (right k lt)).0).0 in
        let none : bit (bit_or b e) k ≡ false = bit-or b e k ∙ ap (λ a. a || bit e k) (mask_at _ v b long b_is k below ∙ other) ∙ free in
        not-false _ (sym (mask_at _ v o long o_is k below) ∙ but_not _ _ (sym (without o (bit_or b e) k be_fits below) ∙ parts.0) none);
    letter = λ k lt set.
        let below : k < 64 = omega (arith, few) in
        let parts = or_none _ _ k (or_none _ _ k (or_none _ x k (right k lt)).0).0 in
        let one : (bit s k || (bit e k && bit u k)) ≡ true = ap (λ a. bit s k || a) (sym (bit-and e u k)) ∙ sym (bit-or s (bit_and e u) k) ∙ so _ _ (sym (without e (bit_or s (bit_and e u)) k su_fits below) ∙ parts.1) set in
        sym (λ i. mask_at is_escaped v s long s_is k below i || (set i && mask_at (λ byte. byte == 0x75) v u long u_is k below i)) ∙ one;
    digits = λ k j low high within set letter.
        four k j low high within (bit-and e u k ∙ and_from _ _ set (mask_at (λ byte. byte == 0x75) v u long u_is k (omega arith) ∙ letter));
    hex = λ k lt set. hexes k (omega (arith, few)) set (or_none _ x k (right k lt)).1;
    boundary = λ some. or_none e d n (stop some);
  }
