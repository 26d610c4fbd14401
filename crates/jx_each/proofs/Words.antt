-- What the words of a block tell.
use Rattle.std.specs.Prelude.{◌==◌, ◌&&◌, ◌||◌, if◌then◌else◌}
use Rattle.std.specs.Int.{bit_at}
use Rattle.std.specs.Simd.Lanes.{mask_l}
use Rattle.std.proofs.Common.{◌≡◌, ℕ, zero, suc, ◌+◌, ◌-◌, ◌*◌, ◌/◌, ◌%◌, ◌^◌, ◌<◌, ◌≤◌, Bool, true, false, not, List, length, map, get_or, refl, sym, ap, ◌∙◌, arith, bit_and, bit_or, bit_xor, inl, inr, w64}
use Rattle.std.specs.Int.Count.{count_trailing_zeros}
use Rattle.std.proofs.Math.Nat.{div-le_self}
use Rattle.std.proofs.lemmas.Bool.{cases_lt, eqb-true, not-false, and_parts}
use Rattle.std.proofs.lemmas.Bool.Decides.{nat_tests}
use Rattle.std.proofs.lemmas.Nat.Bits.{bit_at_above, bit_at-trailing_zeros}
use Rattle.jx_compact.specs.declared.place.Place.TheVariants.{Between, Escaped, Inside}
use Rattle.jx_compact.specs.Compact.{next}
use Rattle.jx_lex.specs.inside.Bits.{bit}
use Rattle.jx_lex.proofs.Bits.{bit-and, bit-down, bit-mask, bit-none, bit-not, bit-or, bit-up, bit-up_first, bit-xor, differ, bit-differ, bit-shr}
use Rattle.jx_each.specs.declared.blocks.Words.{Words}
use Rattle.jx_each.specs.inside.Blocks.{IsMarked, IsTold, in_at, place_by}
use Rattle.jx_each.specs.inside.Runs.{is_blank, is_border, is_bracket, is_low}

-- ---- a word with its lowest bit alone

pub one_first : bit 1 0 ≡ true
unfolding bit
one_first = refl

pub one_others : (k : ℕ) → bit 1 (suc k) ≡ false
one_others k = sym (bit-down 1 k) ∙ bit-none k

-- ---- shifts

-- ---- the words of a block

or_none : (b : Bool) → (b || false) ≡ b
or_none true = refl
or_none false = refl

-- what stands before each place
pub before : (inside : Bool) (s c k : ℕ) → k < 64 → bit c 0 ≡ inside → ((j : ℕ) → bit c (suc j) ≡ false) → bit (bit_or (s * 2 % 2 ^ 64) c) k ≡ in_at inside s k
before inside s c zero lt first others = bit-or (s * 2 % 2 ^ 64) c 0 ∙ ap (λ (b : Bool). b || bit c 0) (bit-up_first s) ∙ first
before inside s c (suc k) lt first others =
    let more : suc k ≡ k + 1 = omega arith in
    bit-or (s * 2 % 2 ^ 64) c (suc k)
    ∙ ap (λ (b : Bool). bit (s * 2 % 2 ^ 64) (suc k) || b) (others k)
    ∙ or_none (bit (s * 2 % 2 ^ 64) (suc k))
    ∙ ap (bit (s * 2 % 2 ^ 64)) more
    ∙ bit-up s 1 k (omega (arith, lt))

up_one : (x k : ℕ) → k < 64 → bit (x * 2 % 2 ^ 64) k ≡ in_at false x k
up_one x zero lt = bit-up_first x
up_one x (suc k) lt =
    let more : suc k ≡ k + 1 = omega arith in
    ap (bit (x * 2 % 2 ^ 64)) more ∙ bit-up x 1 k (omega (arith, lt))

and_none : (m : Bool) → (m && false) ≡ false
and_none true = refl
and_none false = refl

and_all : (m : Bool) → (m && true) ≡ m
and_all true = refl
and_all false = refl

third_of : (a i s n : Bool) → (((a && i) && s) && n) ≡ true → s ≡ true
third_of a i true n h = refl
third_of a i false n h = let e : false ≡ true = sym (ap (λ (m : Bool). m && n) (and_none (a && i))) ∙ h in absurd cc

slashed : (m : Bool) → (if m then Escaped else Inside) ≡ place_by m true
slashed true = refl
slashed false = refl

-- behind a byte: whether it is escaped and stands in a string, whether the byte behind it stands in one and is escaped
goes_by : (e i s x : Bool) (b : ℕ) → x ≡ ((((b == 0x5c) && i) && s) && not e) → differ s i ≡ ((b == 0x22) && not e) → (e ≡ true → i ≡ true) → next (place_by e i) b ≡ place_by x s
goes_by true i true x b h q up = sym (ap (λ (m : Bool). place_by m true) (h ∙ and_none (((b == 0x5c) && i) && true)))
goes_by true i false x b h q up = let e : true ≡ false = sym (up refl) ∙ q ∙ and_none (b == 0x22) in absurd cc
goes_by false false true x b h q up =
    let none : x ≡ false = h ∙ ap (λ (m : Bool). (m && true) && true) (and_none (b == 0x5c)) in
    let mark : (b == 0x22) ≡ true = sym (q ∙ and_all (b == 0x22)) in
    ap (λ (m : Bool). if m then Inside else Between) mark ∙ sym (ap (λ (m : Bool). place_by m true) none)
goes_by false false false x b h q up =
    let none : x ≡ false = h ∙ ap (λ (m : Bool). (m && false) && true) (and_none (b == 0x5c)) in
    let mark : (b == 0x22) ≡ false = sym (q ∙ and_all (b == 0x22)) in
    ap (λ (m : Bool). if m then Inside else Between) mark ∙ sym (ap (λ (m : Bool). place_by m false) none)
goes_by false true true x b h q up =
    let slash : x ≡ (b == 0x5c) = h ∙ and_all (((b == 0x5c) && true) && true) ∙ and_all ((b == 0x5c) && true) ∙ and_all (b == 0x5c) in
    let mark : (b == 0x22) ≡ false = sym (q ∙ and_all (b == 0x22)) in
    ap (λ (m : Bool). if m then Between else if b == 0x5c then Escaped else Inside) mark
    ∙ slashed (b == 0x5c)
    ∙ sym (ap (λ (m : Bool). place_by m true) slash)
goes_by false true false x b h q up =
    let none : x ≡ false = h ∙ ap (λ (m : Bool). m && true) (and_none ((b == 0x5c) && true)) in
    let mark : (b == 0x22) ≡ true = sym (q ∙ and_all (b == 0x22)) in
    ap (λ (m : Bool). if m then Between else if b == 0x5c then Escaped else Inside) mark ∙ sym (ap (λ (m : Bool). place_by m false) none)

module _ (set : ℕ → Bool) (no_mark : set 0x22 ≡ false) where
  mark_left : (b : ℕ) → (b == 0x22) ≡ true → set b ≡ false
  mark_left b q = ap set (eqb-true b 0x22 q) ∙ no_mark

  still_by : (e i s : Bool) (b : ℕ) → differ s i ≡ ((b == 0x22) && not e) → (set b && not s) ≡ false → place_by e i ≡ Between → set b ≡ false
  still_by true i s b q n out = let x : Escaped ≡ Between = out in absurd cc
  still_by false true s b q n out = let x : Inside ≡ Between = out in absurd cc
  still_by false false true b q n out = mark_left b (sym (q ∙ and_all (b == 0x22)))
  still_by false false false b q n out = sym (and_all (set b)) ∙ n

  -- a byte of the set is no quotation mark
  other_mark : (b : ℕ) → set b ≡ true → (b == 0x22) ≡ false
  other_mark b h = pick (b == 0x22) refl
    where
      pick : (m : Bool) → (b == 0x22) ≡ m → m ≡ false
      pick true q = let x : true ≡ false = sym h ∙ mark_left b q in absurd cc
      pick false q = refl

  outside_by : (e i s x : Bool) (b : ℕ) → x ≡ ((((b == 0x5c) && i) && s) && not e) → differ s i ≡ ((b == 0x22) && not e) → (e ≡ true → i ≡ true) → (set b && not s) ≡ true
      → (place_by e i ≡ Between) × (place_by x s ≡ Between) × (set b ≡ true)
  outside_by e i true x b h q up is = let y : false ≡ true = (and_parts (set b) false is).1 in absurd cc
  outside_by e true false x b h q up is =
      let mark : (b == 0x22) ≡ false = other_mark b (and_parts (set b) true is).0 in
      let y : true ≡ false = q ∙ ap (λ (m : Bool). m && not e) mark in absurd cc
  outside_by true false false x b h q up is = let y : false ≡ true = up refl in absurd cc
  outside_by false false false x b h q up is =
      (refl, ap (λ (m : Bool). place_by m false) (h ∙ ap (λ (m : Bool). (m && false) && true) (and_none (b == 0x5c))), (and_parts (set b) true is).0)

pub words_tell : (v : List ℕ) (inside : Bool) (words : Words) (c q w z t u : ℕ) → length v ≡ 64 → words.strings < 2 ^ 64 → z < 2 ^ 64 → bit c 0 ≡ inside → ((j : ℕ) → bit c (suc j) ≡ false)
    → q ≡ mask_l (map (λ byte. byte == 0x22) v) → w ≡ mask_l (map (λ byte. byte == 0x5c) v) → t ≡ mask_l (map is_bracket v) → u ≡ mask_l (map is_border v)
    → words.escapes ≡ bit_and (bit_and (bit_and w (bit_or (words.strings * 2 % 2 ^ 64) c)) words.strings) (2 ^ 64 - 1 - z)
    → words.brackets ≡ bit_and t (2 ^ 64 - 1 - words.strings) → words.borders ≡ bit_and u (2 ^ 64 - 1 - words.strings)
    → ((k : ℕ) → k < 64 → bit words.gaps k ≡ (is_blank (get_or v k 0) && not (bit words.strings k)))
    → bit_xor (bit_xor words.strings (bit_or (words.strings * 2 % 2 ^ 64) c)) (bit_and q (2 ^ 64 - 1 - z)) ≡ 0 → bit_xor z (words.escapes * 2 % 2 ^ 64) ≡ 0
    → (63 ≤ words.len) × (words.len ≤ 64) → bit words.escapes (words.len - 1) ≡ false
    → IsTold v inside words
words_tell v inside words c q w z t u long fits small first others quotes slashes brackets borders is_x is_b is_o is_gap right astray bounds ends = record {
  goes = λ k lt. goes_by (in_at false x k) (in_at inside s k) (bit s k) (bit x k) (get_or v k 0) (escape k lt) (quote k lt) (up k lt);
  brackets = marked is_bracket refl words.brackets (masked is_bracket t words.brackets brackets is_b);
  borders = marked is_border refl words.borders (masked is_border u words.borders borders is_o);
  gaps = marked is_blank refl words.gaps is_gap;
  bounds = bounds;
  ends = ends;
}
  where
    s : ℕ
    s = words.strings

    x : ℕ
    x = words.escapes

    within : (k : ℕ) → k < 64 → k < length v
    within k lt = omega (arith, lt, long)

    escaped : (k : ℕ) → k < 64 → bit z k ≡ in_at false x k
    escaped k lt = bit-xor z (x * 2 % 2 ^ 64) k (ap (λ (n : ℕ). bit n k) astray ∙ bit-none k) ∙ up_one x k lt

    unescaped : (k : ℕ) → k < 64 → bit (2 ^ 64 - 1 - z) k ≡ not (in_at false x k)
    unescaped k lt = bit-not z k small lt ∙ ap not (escaped k lt)

    quote : (k : ℕ) → k < 64 → differ (bit s k) (in_at inside s k) ≡ ((get_or v k 0 == 0x22) && not (in_at false x k))
    quote k lt =
        ap (differ (bit s k)) (sym (before inside s c k lt first others))
        ∙ sym (bit-differ s (bit_or (s * 2 % 2 ^ 64) c) k)
        ∙ bit-xor (bit_xor s (bit_or (s * 2 % 2 ^ 64) c)) (bit_and q (2 ^ 64 - 1 - z)) k (ap (λ (n : ℕ). bit n k) right ∙ bit-none k)
        ∙ bit-and q (2 ^ 64 - 1 - z) k
        ∙ ap (λ (b : Bool). b && bit (2 ^ 64 - 1 - z) k) (ap (λ (n : ℕ). bit n k) quotes ∙ bit-mask (λ byte. byte == 0x22) v k (within k lt))
        ∙ ap (λ (b : Bool). (get_or v k 0 == 0x22) && b) (unescaped k lt)

    slash : (k : ℕ) → k < 64 → bit w k ≡ (get_or v k 0 == 0x5c)
    slash k lt = ap (λ (n : ℕ). bit n k) slashes ∙ bit-mask (λ byte. byte == 0x5c) v k (within k lt)

    escape : (k : ℕ) → k < 64 → bit x k ≡ ((((get_or v k 0 == 0x5c) && in_at inside s k) && bit s k) && not (in_at false x k))
    escape k lt =
        ap (λ (n : ℕ). bit n k) is_x
        ∙ bit-and (bit_and (bit_and w (bit_or (s * 2 % 2 ^ 64) c)) s) (2 ^ 64 - 1 - z) k
        ∙ ap (λ (b : Bool). b && bit (2 ^ 64 - 1 - z) k)
        (bit-and (bit_and w (bit_or (s * 2 % 2 ^ 64) c)) s k
        ∙ ap (λ (b : Bool). b && bit s k)
        (bit-and w (bit_or (s * 2 % 2 ^ 64) c) k
        ∙ ap (λ (b : Bool). b && bit (bit_or (s * 2 % 2 ^ 64) c) k) (slash k lt)
        ∙ ap (λ (b : Bool). (get_or v k 0 == 0x5c) && b) (before inside s c k lt first others)))
        ∙ ap (λ (b : Bool). (((get_or v k 0 == 0x5c) && in_at inside s k) && bit s k) && b) (unescaped k lt)

    -- what is escaped stands in a string
    up : (k : ℕ) → k < 64 → in_at false x k ≡ true → in_at inside s k ≡ true
    up zero lt h = let e : false ≡ true = h in absurd cc
    up (suc k) lt h =
        let low : k < 64 = omega (arith, lt) in
        third_of (get_or v k 0 == 0x5c) (in_at inside s k) (bit s k) (not (in_at false x k)) (sym (escape k low) ∙ h)

    -- of the bytes of a set those outside of strings
    masked : (set : ℕ → Bool) (m e : ℕ) → m ≡ mask_l (map set v) → e ≡ bit_and m (2 ^ 64 - 1 - s) → (k : ℕ) → k < 64 → bit e k ≡ (set (get_or v k 0) && not (bit s k))
    masked set m e is by k lt =
        ap (λ (n : ℕ). bit n k) by
        ∙ bit-and m (2 ^ 64 - 1 - s) k
        ∙ ap (λ (b : Bool). b && bit (2 ^ 64 - 1 - s) k) (ap (λ (n : ℕ). bit n k) is ∙ bit-mask set v k (within k lt))
        ∙ ap (λ (b : Bool). set (get_or v k 0) && b) (bit-not s k fits lt)

    marked : (set : ℕ → Bool) → set 0x22 ≡ false → (e : ℕ) → ((k : ℕ) → k < 64 → bit e k ≡ (set (get_or v k 0) && not (bit s k))) → IsMarked set v inside words e
    marked set no_mark e is = record {
      still = λ k lt clear. still_by set no_mark (in_at false x k) (in_at inside s k) (bit s k) (get_or v k 0) (quote k lt) (sym (is k lt) ∙ clear);
      outside = λ k lt on. outside_by set no_mark (in_at false x k) (in_at inside s k) (bit s k) (bit x k) (get_or v k 0) (escape k lt) (quote k lt) (up k lt) (sym (is k lt) ∙ on);
    }

-- where no byte outside of strings is low, none is a blank
low_blank : (b : ℕ) → is_low b ≡ false → is_blank b ≡ false
low_blank b h = grind (arith, nat_tests)

none_low : (b : ℕ) (m : Bool) → (is_low b && m) ≡ false → (is_blank b && m) ≡ false
none_low b true h = and_all (is_blank b) ∙ low_blank b (sym (and_all (is_low b)) ∙ h)
none_low b false h = and_none (is_blank b)

pub no_gaps : (v : List ℕ) (t s : ℕ) → length v ≡ 64 → s < 2 ^ 64 → t ≡ mask_l (map is_low v) → bit_and t (2 ^ 64 - 1 - s) ≡ 0 → (k : ℕ) → k < 64 → bit 0 k ≡ (is_blank (get_or v k 0) && not (bit s k))
no_gaps v t s long fits is none k lt =
    bit-none k ∙ sym (none_low (get_or v k 0) (not (bit s k))
    (sym
    (sym (bit-none k)
    ∙ ap (λ (n : ℕ). bit n k) (sym none)
    ∙ bit-and t (2 ^ 64 - 1 - s) k
    ∙ ap (λ (b : Bool). b && bit (2 ^ 64 - 1 - s) k) (ap (λ (n : ℕ). bit n k) is ∙ bit-mask is_low v k (omega (arith, lt, long)))
    ∙ ap (λ (b : Bool). is_low (get_or v k 0) && b) (bit-not s k fits lt))))

pub some_gaps : (v : List ℕ) (t s : ℕ) → length v ≡ 64 → s < 2 ^ 64 → t ≡ mask_l (map is_blank v) → (k : ℕ) → k < 64 → bit (bit_and t (2 ^ 64 - 1 - s)) k ≡ (is_blank (get_or v k 0) && not (bit s k))
some_gaps v t s long fits is k lt =
    bit-and t (2 ^ 64 - 1 - s) k
    ∙ ap (λ (b : Bool). b && bit (2 ^ 64 - 1 - s) k) (ap (λ (n : ℕ). bit n k) is ∙ bit-mask is_blank v k (omega (arith, lt, long)))
    ∙ ap (λ (b : Bool). is_blank (get_or v k 0) && b) (bit-not s k fits lt)

-- ---- the first bit from a place on

above_none : (m : ℕ) → (m ≡ 0 → ⊥) → 0 < m
above_none zero h = absurd (h refl)
above_none (suc m) h = omega arith

-- the first place from i on whose bit is set
pub record IsFirstSet (n i r : ℕ) : Type 0 where
  pub low : i ≤ r
  pub high : r < 64
  pub none : (k : ℕ) → i ≤ k → k < r → bit n k ≡ false
  pub set : bit n r ≡ true

as_bit : (n k : ℕ) → bit_at n k ≡ 1 → bit n k ≡ true
unfolding bit
as_bit n k e = ap (λ (m : ℕ). m == 1) e

as_no_bit : (n k : ℕ) → bit_at n k ≡ 0 → bit n k ≡ false
unfolding bit
as_no_bit n k e = ap (λ (m : ℕ). m == 1) e

pub first_set : (n i : ℕ) → n < 2 ^ 64 → (n / 2 ^ i ≡ 0 → ⊥) → IsFirstSet n i (i + count_trailing_zeros 64 (n / 2 ^ i))
first_set n i fits some = record { low = omega arith; high = high; none = none; set = set }
  where
    small : n / 2 ^ i ≤ n
    small = div-le_self n (2 ^ i)

    lowest : (count_trailing_zeros 64 (n / 2 ^ i) < 64) × (bit_at (n / 2 ^ i) (count_trailing_zeros 64 (n / 2 ^ i)) ≡ 1) × ((j : ℕ) → j < count_trailing_zeros 64 (n / 2 ^ i) → bit_at (n / 2 ^ i) j ≡ 0)
    lowest = bit_at-trailing_zeros w64 (n / 2 ^ i) (above_none (n / 2 ^ i) some) (omega (arith, small, fits))

    set : bit n (i + count_trailing_zeros 64 (n / 2 ^ i)) ≡ true
    set = sym (bit-shr n i (count_trailing_zeros 64 (n / 2 ^ i))) ∙ as_bit (n / 2 ^ i) (count_trailing_zeros 64 (n / 2 ^ i)) lowest.1

    none : (k : ℕ) → i ≤ k → k < i + count_trailing_zeros 64 (n / 2 ^ i) → bit n k ≡ false
    none k le lt =
        let e : i + (k - i) ≡ k = omega (arith, le) in
        ap (bit n) (sym e) ∙ sym (bit-shr n i (k - i)) ∙ as_no_bit (n / 2 ^ i) (k - i) (lowest.2 (k - i) (omega (arith, le, lt)))

    high : i + count_trailing_zeros 64 (n / 2 ^ i) < 64
    high = elim (cases_lt (i + count_trailing_zeros 64 (n / 2 ^ i)) 64) [
      | inl lt ↦ lt
      | inr ge ↦ (let top : true ≡ false = sym set ∙ as_no_bit n (i + count_trailing_zeros 64 (n / 2 ^ i)) (bit_at_above n 64 (i + count_trailing_zeros 64 (n / 2 ^ i)) fits ge) in absurd cc)
    ]

pub none_set : (n i k : ℕ) → n / 2 ^ i ≡ 0 → i ≤ k → bit n k ≡ false
none_set n i k none le =
    let e : i + (k - i) ≡ k = omega (arith, le) in
    ap (bit n) (sym e) ∙ sym (bit-shr n i (k - i)) ∙ ap (λ (m : ℕ). bit m (k - i)) none ∙ bit-none (k - i)

-- ---- bits that are not set

pub clear_before : (n k : ℕ) → n < 2 ^ 64 → k < 64 → bit (2 ^ 64 - 1 - n) k ≡ false → bit n k ≡ true
clear_before n k fits lt clear = not-false (bit n k) (sym (bit-not n k fits lt) ∙ clear)

-- a place whose bit is set is not the first one whose bit is not
pub clear_past : (n at r : ℕ) → n < 2 ^ 64 → at < 64 → at ≤ r → bit n at ≡ true → (r < 64 → bit (2 ^ 64 - 1 - n) r ≡ true) → at < r
clear_past n at r fits lt low set clear = elim (cases_lt at r) [
  | inl less ↦ less
  | inr ge ↦ (let same : r ≡ at = omega (arith, low, ge) in
      let not_set : true ≡ false = sym (clear (omega (arith, same, lt))) ∙ ap (bit (2 ^ 64 - 1 - n)) same ∙ bit-not n at fits lt ∙ ap not set in absurd cc)
]
