-- A word has as many bits as the token starts that it stands for.
use Rattle.std.proofs.Common.{◌≡◌, ◌⊎◌, inl, inr, ℕ, zero, suc, ◌+◌, ◌-◌, ◌*◌, ◌%◌, ◌^◌, ◌<◌, ◌≤◌, Bool, true, false, cond, List, [], ◌∷◌, length, get_or, Option, Some, None, if◌then◌else◌, refl, ap, sym, ◌∙◌, arith, bit_or}
use Rattle.std.specs.Prelude.{slice_range, ◌==◌, ◌&&◌, ◌||◌}
use Rattle.std.specs.Int.RustNames.{count_ones}
use Rattle.std.specs.Int.{bit_at}
use Rattle.std.proofs.lemmas.Bool.{cases_Bool}
use Rattle.std.proofs.lemmas.Bool.Decides.{nat_tests}
use Rattle.std.proofs.lemmas.List.Sums.{sum_by-append}
use Rattle.std.proofs.lemmas.Nat.{mod-pow-add, ones_cat, pow_pos}
use Rattle.std.proofs.lemmas.Nat.Bits.{bit_at-lt, bit_at_above}
use Rattle.jx_lex.specs.declared.alphabet.mark.Mark.{Mark}
use Rattle.jx_lex.specs.declared.alphabet.mark.MarkKind.{MarkKind}
use Rattle.jx_lex.specs.declared.alphabet.state.LexState.TheVariants.{Gap}
use Rattle.jx_lex.specs.inside.Bits.{bit}
use Rattle.jx_lex.specs.Classes.{class_at, all_classes, first_with}
use Rattle.jx_lex.specs.Counts.{number_of, is_comma, is_string, is_scalar, is_brace, opens, closes}
use Rattle.jx_lex.specs.Lex.{with_mark}
use Rattle.jx_lex.specs.Moves.{move, row}
use Rattle.jx_lex.proofs.Bits.{bit-or}
use Rattle.jx_lex.proofs.ClassTable.{all_below, all_below-at}
use Rattle.jx_lex.proofs.Counts.{number_of-more}
use Rattle.jx_lex.proofs.Slices.{slice-more, slice-none, slice-length}
use Rattle.jx_block.specs.Kinds.{AreKinds, Among, begins_scalar}
use Rattle.jx_block.specs.Listed.{is_set, marks_of}
use Rattle.jx_block.specs.declared.kinds.TokenKinds.{TokenKinds}
use Rattle.jx_block.proofs.Listing.{mark_at, marks_of-append, marks_of-one}

abbrev one_if : Bool → ℕ
one_if b = cond b 1 0

-- ---- which bytes begin which tokens

abbrev pub passes : (MarkKind → Bool) → Option MarkKind → Bool
passes test None = false
passes test (Some kind) = test kind

abbrev same : Bool → Bool → Bool
same true b = b
same false true = false
same false false = true

alike : (a b : Bool) → same a b ≡ true → a ≡ b
alike true true h = refl
alike false false h = refl
alike true false h = cc
alike false true h = cc

-- just these bytes begin tokens that pass this test
abbrev pub Begins : (MarkKind → Bool) → (ℕ → Bool) → Type 0
Begins test byte = all_below 256 (λ b. same (passes test (row Gap (first_with all_classes b)).begin) (byte b)) ≡ true

pub begins-comma : Begins is_comma (λ b. b == 0x2c)
begins-comma = refl

pub begins-string : Begins is_string (λ b. b == 0x22)
begins-string = refl

pub begins-scalar : Begins is_scalar begins_scalar
begins-scalar = refl

pub begins-opening : Begins opens (λ b. (b == 0x5b) || (b == 0x7b))
begins-opening = refl

pub begins-brace : Begins is_brace (λ b. (b == 0x7b) || (b == 0x7d))
begins-brace = refl

pub begins-closing : Begins closes (λ b. (b == 0x5d) || (b == 0x7d))
begins-closing = refl

begins-at : (test : MarkKind → Bool) (byte : ℕ → Bool) → Begins test byte → (b : ℕ) → b < 256 → passes test (move Gap b).begin ≡ byte b
unfolding class_at
begins-at test byte tested b lt = alike _ _ (all_below-at (λ b. same (passes test (row Gap (first_with all_classes b)).begin) (byte b)) 256 tested b lt)

-- the bytes at which tokens begin are bytes
pub token_bytes : (text : List ℕ) (at starts : ℕ) (t : TokenKinds) → AreKinds text at starts t → (k : ℕ) → k < 64 → is_set starts k ≡ true → get_or text (at + k) 0 < 256
token_bytes text at starts t kinds k lt set = small (get_or text (at + k) 0) (words ∙ kinds.all k lt set)
  where
    small : (b : ℕ) → ((((((((b == 0x2c) || (b == 0x3a)) || (b == 0x22)) || begins_scalar b) || (b == 0x5b)) || (b == 0x5d)) || (b == 0x7b)) || (b == 0x7d)) ≡ true → b < 256
    small b h = grind (arith, nat_tests)

    one : (w : ℕ) (test : ℕ → Bool) → Among text at starts w test → test (get_or text (at + k) 0) ≡ is_set w k
    one w test among = ap (λ (s : Bool). s && test (get_or text (at + k) 0)) (sym set) ∙ sym (among k lt)

    b : ℕ
    b = get_or text (at + k) 0

    words : ((((((((b == 0x2c) || (b == 0x3a)) || (b == 0x22)) || begins_scalar b) || (b == 0x5b)) || (b == 0x5d)) || (b == 0x7b)) || (b == 0x7d))
        ≡ (((((((is_set t.commas k || is_set t.colons k) || is_set t.strings k) || is_set t.scalars k) || is_set t.open_arrays k) || is_set t.close_arrays k) || is_set t.open_objects k) || is_set t.close_objects k)
    words = λ i.
        (((((((one t.commas (λ b. b == 0x2c) kinds.commas i || one t.colons (λ b. b == 0x3a) kinds.colons i) || one t.strings (λ b. b == 0x22) kinds.strings i) || one t.scalars begins_scalar kinds.scalars i) || one t.open_arrays (λ b. b == 0x5b) kinds.open_arrays i) || one t.close_arrays (λ b. b == 0x5d) kinds.close_arrays i) || one t.open_objects (λ b. b == 0x7b) kinds.open_objects i) || one t.close_objects (λ b. b == 0x7d) kinds.close_objects i)

-- of two words
pub among_two : (text : List ℕ) (at starts a b : ℕ) (p q : ℕ → Bool) → Among text at starts a p → Among text at starts b q → Among text at starts (bit_or a b) (λ x. p x || q x)
unfolding bit
among_two text at starts a b p q f g = λ k lt.
    bit-or a b k ∙ (λ i. f k lt i || g k lt i) ∙ either (is_set starts k) (p (get_or text (at + k) 0)) (q (get_or text (at + k) 0))
  where
    either : (s x y : Bool) → ((s && x) || (s && y)) ≡ (s && (x || y))
    either true x y = refl
    either false x y = refl

-- ---- how many bits are set

ones-bit : (b : ℕ) → b < 2 → count_ones b ≡ one_if (b == 1)
unfolding count_ones
ones-bit zero lt = refl
ones-bit (suc zero) lt = refl
ones-bit (suc (suc b)) lt = absurd (omega arith)

pub no_bits : (w : ℕ) → count_ones (w % 2 ^ 0) ≡ 0
no_bits w = let none : w % 2 ^ 0 ≡ 0 = omega arith in let e : count_ones 0 ≡ 0 = ones-bit 0 (omega arith) in ap count_ones none ∙ e

-- one bit more
pub ones-more : (w n : ℕ) → count_ones (w % 2 ^ (n + 1)) ≡ count_ones (w % 2 ^ n) + one_if (is_set w n)
ones-more w n =
    let e : n + 1 ≡ 1 + n = omega arith in
    let low : w % 2 ^ n < 2 ^ n = omega (arith, pow_pos n) in
    let cut : count_ones (w % 2 ^ (n + 1)) ≡ count_ones (bit_at w n * 2 ^ n + w % 2 ^ n) = ap (λ (m : ℕ). count_ones (w % 2 ^ m)) e ∙ ap count_ones (mod-pow-add w 1 n) in
    let two = ones_cat n (bit_at w n) (w % 2 ^ n) low in
    let one = ones-bit (bit_at w n) (bit_at-lt w n) in
    cut ∙ two ∙ omega arith

-- behind the last bit
pub ones-cut : (w n d : ℕ) → ((k : ℕ) → n ≤ k → k < n + d → is_set w k ≡ false) → count_ones (w % 2 ^ (n + d)) ≡ count_ones (w % 2 ^ n)
ones-cut w n zero none = let e : n + 0 ≡ n = omega arith in ap (λ (m : ℕ). count_ones (w % 2 ^ m)) e
ones-cut w n (suc d) none =
    let e : n + suc d ≡ n + d + 1 = omega arith in
    let rest = ones-cut w n d (λ k low high. none k low (omega arith)) in
    let last = ap one_if (none (n + d) (omega arith) (omega arith)) in
    ap (λ (m : ℕ). count_ones (w % 2 ^ m)) e ∙ ones-more w (n + d) ∙ omega (arith, rest, last)

-- ---- the token starts of a block

module _ (test : MarkKind → Bool) (byte : ℕ → Bool) (text : List ℕ) (at starts w : ℕ) (tested : Begins test byte) (among : Among text at starts w byte) (fits : at + 64 ≤ length text)
    (small : (k : ℕ) → k < 64 → is_set starts k ≡ true → get_or text (at + k) 0 < 256) where
  byte_at : ℕ → ℕ
  byte_at k = get_or text (at + k) 0

  pub at_byte : (k : ℕ) → k < 64 → passes test (mark_at starts k (get_or text (at + k) 0)) ≡ is_set w k
  at_byte k lt = by_bit (cases_Bool (is_set starts k))
    where
      b : ℕ
      b = get_or text (at + k) 0

      by_bit : (is_set starts k ≡ true) ⊎ (is_set starts k ≡ false) → passes test (mark_at starts k b) ≡ is_set w k
      by_bit (inl set) =
          ap (λ (s : Bool). passes test (if s then (move Gap b).begin else None)) set
          ∙ begins-at test byte tested b (small k lt set)
          ∙ ap (λ (s : Bool). s && byte b) (sym set)
          ∙ sym (among k lt)
      by_bit (inr none) = ap (λ (s : Bool). passes test (if s then (move Gap b).begin else None)) none ∙ ap (λ (s : Bool). s && byte b) (sym none) ∙ sym (among k lt)

  of_mark : (m : Option MarkKind) (i : ℕ) → number_of test (with_mark m i []) ≡ one_if (passes test m)
  of_mark None i = refl
  of_mark (Some k) i = number_of-more test (record { kind = k; at = i }) [] ∙ none (one_if (test k))
    where
      none : (n : ℕ) → n + 0 ≡ n
      none n = omega arith

  -- the first n bytes
  counted-first : (n : ℕ) → n ≤ 64 → number_of test (marks_of starts 0 at (slice_range text at (at + n))) ≡ count_ones (w % 2 ^ n)
  unfolding marks_of
  counted-first zero le = let e : at + 0 ≡ at = omega arith in ap (λ (bytes : List ℕ). number_of test (marks_of starts 0 at bytes)) (ap (slice_range text at) e ∙ slice-none text at) ∙ sym (no_bits w)
  counted-first (suc n) le =
      let bytes = slice_range text at (at + n) in
      let b = get_or text (at + n) 0 in
      let long = slice-length text at (at + n) (omega arith) (omega arith) in
      let e : at + suc n ≡ at + n + 1 = omega arith in
      let f : suc n ≡ n + 1 = omega arith in
      let m : 0 + length bytes ≡ n = omega (arith, long) in
      let a : at + length bytes ≡ at + n = omega (arith, long) in
      let before = counted-first n (omega arith) in
      let here : number_of test (marks_of starts n (at + n) (b ∷ [])) ≡ one_if (is_set w n) =
      ap (number_of test) (marks_of-one starts n (at + n) b) ∙ of_mark (mark_at starts n b) (at + n) ∙ ap one_if (at_byte n (omega arith)) in
      ap (λ (bytes : List ℕ). number_of test (marks_of starts 0 at bytes)) (ap (slice_range text at) e ∙ slice-more text at (at + n) 0 (omega arith) (omega arith))
      ∙ ap (number_of test) (marks_of-append starts 0 at bytes (b ∷ []))
      ∙ sum_by-append (λ (m : Mark). cond (test m.kind) 1 0) (marks_of starts 0 at bytes) (marks_of starts (0 + length bytes) (at + length bytes) (b ∷ []))
      ∙ (λ i. before i + number_of test (marks_of starts (m i) (a i) (b ∷ [])))
      ∙ ap (λ (c : ℕ). count_ones (w % 2 ^ n) + c) here
      ∙ sym (ap (λ (k : ℕ). count_ones (w % 2 ^ k)) f ∙ ones-more w n)

  -- as many tokens as bits
  pub counted : (len : ℕ) → len < 64 → starts < 2 ^ len → w < 2 ^ 64 → number_of test (marks_of starts 0 at (slice_range text at (at + len))) ≡ count_ones w
  counted len lt few fits =
      let e : len + (64 - len) ≡ 64 = omega arith in
      let all : w % 2 ^ 64 ≡ w = omega arith in
      counted-first len (omega arith)
      ∙ sym (ones-cut w len (64 - len) (λ k low high. among k (omega arith) ∙ ap (λ (s : Bool). s && byte (get_or text (at + k) 0)) (ap (λ n. n == 1) (bit_at_above starts len k few low))))
      ∙ ap (λ (n : ℕ). count_ones (w % 2 ^ n)) e
      ∙ ap count_ones all
