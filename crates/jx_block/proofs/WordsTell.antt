-- The words of a block say, bit by bit, what its bytes are.
use Rattle.std.proofs.Common.{◌≡◌, ◌⊎◌, inl, inr, ℕ, zero, suc, ◌+◌, ◌-◌, ◌*◌, ◌/◌, ◌%◌, ◌^◌, ◌<◌, ◌≤◌, Bool, true, false, not, List, length, get_or, map, drop, if◌then◌else◌, refl, ap, sym, ◌∙◌, arith, mod-lt, bit_and, bit_or, bit_xor}
use Rattle.std.specs.Prelude.{◌==◌, ◌||◌, ◌&&◌, slice_range}
use Rattle.std.specs.Simd.Lanes.{mask_l, chunk}
use Rattle.std.proofs.lemmas.Bool.{or_parts, not-false}
use Rattle.std.proofs.lemmas.List.{get_or-drop, get_or-take}
use Rattle.std.proofs.lemmas.Nat.{or_lt, and_le_l, pow_pos}
use Rattle.std.proofs.lemmas.Simd.{length-chunk}
use Rattle.jx_lex.specs.declared.alphabet.state.LexState.{LexState}
use Rattle.jx_lex.specs.declared.alphabet.state.LexState.TheVariants as state
use Rattle.jx_lex.specs.inside.Bits.{bit}
use Rattle.jx_lex.specs.Lex.{lex}
use Rattle.jx_lex.specs.Lex as reading
use Rattle.jx_lex.specs.Uneventful.{is_plain, is_blank, is_escaped}
use Rattle.jx_lex.proofs.Bits.{bit-and, bit-or, bit-not, bit-xor, bit-none, bit-down, bit-mask, bit-up, bit-up_first, differ, bit-differ}
use Rattle.jx_block.specs.inside.Planes.{is_structural, is_stop}
use Rattle.jx_block.specs.inside.Whole.{IsWhole}
use Rattle.jx_block.specs.Listed.{marks_of}
use Rattle.jx_block.specs.inside.Words.{behind}
use Rattle.jx_block.proofs.Told.{Told, is_real, is_other, told_read, stands}

abbrev pub flip : ℕ → ℕ
flip w = 2 ^ 64 - 1 - w

-- a byte of a block
pub block_byte : (text : List ℕ) (at k : ℕ) → k < 64 → get_or (chunk at 64 text) k 0 ≡ get_or text (at + k) 0
block_byte text at k lt = get_or-take 64 (drop at text) k 0 lt ∙ get_or-drop at text k 0

-- a test of the bytes of a block
pub test_at : (p : ℕ → Bool) (text : List ℕ) (at w : ℕ) → at + 64 ≤ length text → w ≡ mask_l (map p (chunk at 64 text)) → (k : ℕ) → k < 64 → bit w k ≡ p (get_or text (at + k) 0)
test_at p text at w fits is k lt =
    let long = length-chunk at 64 text fits in
    ap (λ w. bit w k) is ∙ bit-mask p (chunk at 64 text) k (omega (arith, long)) ∙ ap p (block_byte text at k lt)

-- a shift to the left by one
pub shifted : (w k : ℕ) → k < 64 → bit (w * 2 % 2 ^ 64) k ≡ behind (bit w) k
shifted w zero lt = bit-up_first w
shifted w (suc k) lt =
    let e : k + 1 ≡ suc k = omega arith in
    ap (bit (w * 2 % 2 ^ 64)) (sym e) ∙ bit-up w 1 k (omega arith)

pub behind_same : (f g : ℕ → Bool) (k : ℕ) → ((j : ℕ) → suc j ≡ k → f j ≡ g j) → behind f k ≡ behind g k
behind_same f g zero same = refl
behind_same f g (suc k) same = same k refl

pub but : (a b k : ℕ) → b < 2 ^ 64 → k < 64 → bit (bit_and a (flip b)) k ≡ (bit a k && not (bit b k))
but a b k fits lt = bit-and a (flip b) k ∙ ap (λ t. bit a k && t) (bit-not b k fits lt)

pub and_but : (a b k : ℕ) → b < 2 ^ 64 → k < 64 → bit (bit_and (flip b) a) k ≡ (not (bit b k) && bit a k)
and_but a b k fits lt = bit-and (flip b) a k ∙ ap (λ t. t && bit a k) (bit-not b k fits lt)

pub neither : (a b k : ℕ) → bit (bit_or a b) k ≡ false → (bit a k ≡ false) × (bit b k ≡ false)
neither a b k h = or_parts _ _ (sym (bit-or a b k) ∙ h)

-- a difference that is none
differ_none : (a b c : Bool) → differ a (differ b c) ≡ false → a ≡ differ b c
differ_none true b c h = by_bit (differ b c) h
  where
    by_bit : (t : Bool) → not t ≡ false → true ≡ t
    by_bit true h = refl
    by_bit false h = h
differ_none false b c h = sym h

-- what is set and not in the other word
both_of : (a l p : Bool) → (a && not (l && p)) ≡ false → a ≡ true → (l ≡ true) × (p ≡ true)
both_of true true true h k = (refl, refl)
both_of true true false h k = absurd cc
both_of true false p h k = absurd cc
both_of false l p h k = absurd cc

plain_of : (p o e q b : Bool) → ((p && o) && not ((e || q) || b)) ≡ false → p ≡ true → e ≡ false → q ≡ false → b ≡ false → o ≡ false
plain_of true true false false false h i j k l = h
plain_of true false false false false h i j k l = refl
plain_of false o e q b h i j k l = absurd cc
plain_of true o true q b h i j k l = absurd cc
plain_of true o false true b h i j k l = absurd cc
plain_of true o false false true h i j k l = absurd cc

-- The words of a block: q quotation marks, b backslashes, l letters behind them, o no ordinary ASCII, w blanks, s structural characters;
-- e what is escaped, i what goes on inside a string; x scalars that are wrong.
module _ (text : List ℕ) (at q b l o w s e i x n fs : ℕ) (fits : at + 64 ≤ length text) (q_is : q ≡ mask_l (map (λ byte. byte == 0x22) (chunk at 64 text)))
    (b_is : b ≡ mask_l (map (λ byte. byte == 0x5c) (chunk at 64 text))) (l_is : (e ≡ 0) ⊎ (l ≡ mask_l (map is_escaped (chunk at 64 text))))
    (o_is : o ≡ mask_l (map (λ byte. not (is_plain byte)) (chunk at 64 text)))
    (w_is : (k : ℕ) → k < 64 → bit w k ≡ is_blank (get_or (chunk at 64 text) k 0)) (s_is : (k : ℕ) → k < 64 → bit s k ≡ is_structural (get_or (chunk at 64 text) k 0))
    (q_fits : q < 2 ^ 64) (b_fits : b < 2 ^ 64) (w_fits : w < 2 ^ 64) (s_fits : s < 2 ^ 64) (l_fits : l < 2 ^ 64) (e_fits : e < 2 ^ 64) where
  abbrev pub real : ℕ
  real = bit_and (flip e) q

  abbrev pub before : ℕ
  before = i * 2 % 2 ^ 64

  abbrev pub scalars : ℕ
  scalars = flip (bit_or (bit_or (bit_or before w) s) q)

  abbrev pub firsts : ℕ
  firsts = bit_and scalars (flip (scalars * 2 % 2 ^ 64))

  abbrev pub wrong : ℕ
  wrong = bit_or (bit_or (bit_or (bit_or (bit_xor i (bit_xor before real)) (bit_xor (e / 2) (bit_and (flip e) b))) (bit_and e (flip (bit_and l before)))) (bit_and (bit_and before o) (flip (bit_or (bit_or e q) b)))) x

  abbrev pub starts : ℕ
  starts = bit_or (bit_or (bit_and (flip before) s) (bit_and real i)) firsts

  abbrev byte : ℕ → ℕ
  byte k = get_or text (at + k) 0

  abbrev stop : ℕ → Bool
  stop k = is_stop (byte k)

  before_fits : before < 2 ^ 64
  before_fits = mod-lt (i * 2) (pow_pos 64)

  taken_fits : bit_or (bit_or (bit_or before w) s) q < 2 ^ 64
  taken_fits = or_lt 64 (bit_or (bit_or before w) s) q (or_lt 64 (bit_or before w) s (or_lt 64 before w before_fits w_fits) s_fits) q_fits

  quote_at : (k : ℕ) → k < 64 → bit q k ≡ (byte k == 0x22)
  quote_at = test_at (λ byte. byte == 0x22) text at q fits q_is

  real_at : (k : ℕ) → k < 64 → bit real k ≡ is_real (byte k) (bit e k)
  real_at k lt = and_but q e k e_fits lt ∙ ap (λ t. not (bit e k) && t) (quote_at k lt)

  before_next : (k : ℕ) → suc k < 64 → bit before (suc k) ≡ bit i k
  before_next k lt = shifted i (suc k) lt

  scalar_at : (k : ℕ) → k < 64 → bit scalars k ≡ is_other (byte k) (bit before k)
  scalar_at k lt =
      bit-not (bit_or (bit_or (bit_or before w) s) q) k taken_fits lt
      ∙ ap not
      (bit-or (bit_or (bit_or before w) s) q k
      ∙ (λ j. (bit-or (bit_or before w) s k ∙ (λ j. (bit-or before w k ∙ ap (λ t. bit before k || t) (w_is k lt ∙ ap is_blank (block_byte text at k lt))) j || (s_is k lt ∙ ap is_structural (block_byte text at k lt)) j)) j || quote_at k lt j))

  shifted_fits : scalars * 2 % 2 ^ 64 < 2 ^ 64
  shifted_fits = mod-lt (scalars * 2) (pow_pos 64)

  first_at : (k : ℕ) → k < 64 → bit firsts k ≡ (bit scalars k && not (behind (bit scalars) k))
  first_at k lt = but scalars (scalars * 2 % 2 ^ 64) k shifted_fits lt ∙ ap (λ t. bit scalars k && not t) (shifted scalars k lt)

  starts_at : (k : ℕ) → k < 64
      → bit starts k ≡ (((not (bit before k) && is_structural (byte k)) || (is_real (byte k) (bit e k) && bit i k)) || (bit scalars k && not (behind (bit scalars) k)))
  starts_at k lt =
      bit-or (bit_or (bit_and (flip before) s) (bit_and real i)) firsts k
      ∙ (λ j.
      (bit-or (bit_and (flip before) s) (bit_and real i) k
      ∙ (λ j. (and_but s before k before_fits lt ∙ ap (λ t. not (bit before k) && t) (s_is k lt ∙ ap is_structural (block_byte text at k lt))) j || (bit-and real i k ∙ ap (λ t. t && bit i k) (real_at k lt)) j)) j
      || first_at k lt j)

  letter_at : (k : ℕ) → k < 64 → bit e k ≡ true → bit l k ≡ is_escaped (byte k)
  letter_at k lt set = by_word l_is
    where
      by_word : (e ≡ 0) ⊎ (l ≡ mask_l (map is_escaped (chunk at 64 text))) → bit l k ≡ is_escaped (byte k)
      by_word (inl none) = let clash : true ≡ false = sym set ∙ ap (λ w. bit w k) none ∙ bit-none k in cc
      by_word (inr is) = test_at is_escaped text at l fits is k lt

  escaped_fits : bit_and l before < 2 ^ 64
  escaped_fits = let le = and_le_l l before in omega (arith, le)

  marked_fits : bit_or (bit_or e q) b < 2 ^ 64
  marked_fits = or_lt 64 (bit_or e q) b (or_lt 64 e q e_fits q_fits) b_fits

  module _ (few : n < 64) (right : (k : ℕ) → k < n → bit wrong k ≡ false) (between : bit (bit_or (bit_or e (scalars * 2 % 2 ^ 64)) before) n ≡ false)
      (whole : (k m : ℕ) → k ≤ m → m < 64 → bit scalars m ≡ false → bit firsts k ≡ true → ((j : ℕ) → j ≤ m → bit x j ≡ false) → IsWhole text at (bit scalars) stop k)
      (fs_kept : (k : ℕ) → k < n → bit fs k ≡ bit starts k) where
    low : (k : ℕ) → k < n → k < 64
    low k lt = omega arith

    -- no part of `wrong` has a bit
    parts : (k : ℕ) → k < n → (bit (bit_xor i (bit_xor before real)) k ≡ false) × (bit (bit_xor (e / 2) (bit_and (flip e) b)) k ≡ false)
        × (bit (bit_and e (flip (bit_and l before))) k ≡ false) × (bit (bit_and (bit_and before o) (flip (bit_or (bit_or e q) b))) k ≡ false) × (bit x k ≡ false)
    parts k lt =
        let a = neither _ x k (right k lt) in
        let d = neither _ (bit_and (bit_and before o) (flip (bit_or (bit_or e q) b))) k a.0 in
        let f = neither _ (bit_and e (flip (bit_and l before))) k d.0 in
        let g = neither (bit_xor i (bit_xor before real)) (bit_xor (e / 2) (bit_and (flip e) b)) k f.0 in
        (g.0, g.1, f.1, d.1, a.1)

    -- the place n is in no scalar, and the byte before it no backslash
    parted : (bit e n ≡ false) × (bit (scalars * 2 % 2 ^ 64) n ≡ false)
    parted = neither e (scalars * 2 % 2 ^ 64) n (neither (bit_or e (scalars * 2 % 2 ^ 64)) before n between).0

    -- a scalar that begins before the place n ends before it
    whole_before : (k m : ℕ) → k < m → m ≡ n → bit scalars k ≡ true → behind (bit scalars) k ≡ false → IsWhole text at (bit scalars) stop k
    whole_before k zero lt is set fresh = absurd (omega arith)
    whole_before k (suc m) lt is set fresh =
        whole k m (omega arith) (omega arith) (ap (behind (bit scalars)) is ∙ sym (shifted scalars n few) ∙ parted.1)
        (first_at k (low k (omega arith)) ∙ (λ j. set j && not (fresh j))) (λ j le. (parts j (omega arith)).4)

    told : Told text at fs (bit e) (bit i) (bit before) (bit scalars) stop n
    unfolding bit
    told = record {
      few = few;
      carried = λ k lt. before_next k (omega arith);
      turned = λ k lt.
          differ_none (bit i k) (bit before k) (bit real k) (sym (bit-differ i (bit_xor before real) k ∙ ap (differ (bit i k)) (bit-differ before real k)) ∙ (parts k lt).0)
          ∙ ap (differ (bit before k)) (real_at k (low k lt));
      escaped = λ k lt.
          sym (bit-down e k) ∙ bit-xor (e / 2) (bit_and (flip e) b) k (parts k lt).1 ∙ and_but b e k e_fits (low k lt)
          ∙ ap (λ t. not (bit e k) && t) (test_at (λ byte. byte == 0x5c) text at b fits b_is k (low k lt));
      letter = λ k lt set.
          let both = both_of (bit e k) (bit l k) (bit before k) (sym (but e (bit_and l before) k escaped_fits (low k lt) ∙ ap (λ t. bit e k && not t) (bit-and l before k)) ∙ (parts k lt).2) set in
          (sym (letter_at k (low k lt) set) ∙ both.0, both.1);
      plain = λ k lt inside free no_quote no_backslash.
          let at_o = test_at (λ byte. not (is_plain byte)) text at o fits o_is k (low k lt) in
          not-false _ (sym at_o ∙ plain_of (bit before k) (bit o k) (bit e k) (bit q k) (bit b k)
          (sym (but (bit_and before o) (bit_or (bit_or e q) b) k marked_fits (low k lt)
          ∙ (λ j. bit-and before o k j && not ((bit-or (bit_or e q) b k ∙ ap (λ t. t || bit b k) (bit-or e q k)) j))) ∙ (parts k lt).3)
          inside free (quote_at k (low k lt) ∙ no_quote) (test_at (λ byte. byte == 0x5c) text at b fits b_is k (low k lt) ∙ no_backslash));
      other = scalar_at;
      stops = λ k lt. refl;
      whole = λ k lt set fresh. whole_before k n lt refl set fresh;
      starts_are = λ k lt. fs_kept k lt ∙ starts_at k (low k lt);
      boundary = sym (shifted scalars n few) ∙ parted.1;
    }

    abbrev stands_at : ℕ → LexState
    stands_at = stands text at fs (bit e) (bit i) (bit before) (bit scalars) stop n fits told

    in_gap : (k : ℕ) → bit before k ≡ false → stands_at k ≡ state.Gap
    in_gap k h = ap (λ (t : Bool). if t then (if bit e k then state.Esc else state.Str) else state.Gap) h

    -- the bytes before n are read as the word lists them
    pub block_read : ((lex state.Gap at (slice_range text at (at + n))).marks ≡ marks_of fs 0 at (slice_range text at (at + n))) × ((lex state.Gap at (slice_range text at (at + n))).exit ≡ reading.state state.Gap)
    block_read =
        let begun : stands_at 0 ≡ state.Gap = in_gap 0 (bit-up_first i) in
        let ended : stands_at n ≡ state.Gap = in_gap n (neither (bit_or e (scalars * 2 % 2 ^ 64)) before n between).1 in
        let at_0 : at ≡ at + 0 = omega arith in
        let read = told_read text at fs (bit e) (bit i) (bit before) (bit scalars) stop n fits told in (
          (λ j. (lex (sym begun j) (at_0 j) (slice_range text (at_0 j) (at + n))).marks) ∙ read.marks ∙ ap (λ a. marks_of fs 0 a (slice_range text a (at + n))) (sym at_0),
          (λ j. (lex (sym begun j) (at_0 j) (slice_range text (at_0 j) (at + n))).exit) ∙ read.exit ∙ ap reading.state ended,
        )
