-- Bytes of a number that stand where they may are read as a number.
use Rattle.std.proofs.Common.{◌≡◌, ◌⊎◌, inl, inr, ℕ, zero, suc, ◌+◌, ◌<◌, ◌≤◌, Bool, true, false, not, List, [], ◌∷◌, length, get_or, refl, ap, sym, subst, ◌∙◌, arith}
use Rattle.std.specs.Prelude.{◌==◌, ◌||◌, ◌&&◌, slice_range}
use Rattle.std.specs.Simd.Lanes.{chunk}
use Rattle.std.proofs.lemmas.Bool.{cases_Bool, cases_lt, or_right}
use Rattle.std.proofs.lemmas.Bool.Decides.{nat_tests}
use Rattle.jx_lex.specs.declared.alphabet.class.Class.TheVariants as class
use Rattle.jx_lex.specs.declared.alphabet.mark.MarkKind.TheVariants.{Number}
use Rattle.jx_lex.specs.declared.alphabet.state.LexState.{LexState}
use Rattle.jx_lex.specs.declared.alphabet.state.LexState.TheVariants as state
use Rattle.jx_lex.specs.Classes.{class_at}
use Rattle.jx_lex.specs.Moves.{move, row, go, begin}
use Rattle.jx_lex.specs.Uneventful.{Leads, is_digit}
use Rattle.jx_lex.specs.Whole.{MayEnd}
use Rattle.jx_lex.specs.inside.Bits.{bit}
use Rattle.jx_lex.proofs.ClassTable.{and_left, and_right}
use Rattle.jx_lex.proofs.Running.{Leads-append}
use Rattle.jx_lex.proofs.Slices.{slice-more, slice-none}
use Rattle.jx_lex.proofs.Whole.{begins-minus, begins-zero, begins-digit, zero-ends, int-ends, frac-ends, exp-ends, passes-number}
use Rattle.jx_block.specs.declared.numbers.NumberWords.{NumberWords}
use Rattle.jx_block.specs.inside.Numbers.{AreClasses, Placed}
use Rattle.jx_block.specs.inside.Planes.{is_exponent}
use Rattle.jx_block.specs.inside.Whole.{IsWhole}
use Rattle.jx_block.specs.inside.Words.{behind}
use Rattle.jx_block.proofs.Bytes.{of_set}
use Rattle.jx_block.proofs.WordsTell.{block_byte}

-- ---- bytes

abbrev is_sign : ℕ → Bool
is_sign byte = byte == 0x2b || byte == 0x2d

abbrev is_leading : ℕ → Bool
is_leading byte = is_digit byte && not (byte == 0x30)

digit_small : (b : ℕ) → is_digit b ≡ true → b < 256
digit_small b h = grind (arith, nat_tests)

leading_small : (b : ℕ) → is_leading b ≡ true → b < 256
leading_small b h = grind (arith, nat_tests)

exponent_small : (b : ℕ) → is_exponent b ≡ true → b < 256
exponent_small b h = grind (arith, nat_tests)

sign_small : (b : ℕ) → is_sign b ≡ true → b < 256
sign_small b h = grind (arith, nat_tests)

digit_goes : (s t : LexState) → row s class.Zero ≡ go t → row s class.Digit ≡ go t → (b : ℕ) → is_digit b ≡ true → move s b ≡ go t
digit_goes s t z d b h = of_set is_digit (λ c. row s c ≡ go t) (class.Zero ∷ class.Digit ∷ []) (z, (d, tt)) refl b (digit_small b h) h

leading_goes : (s t : LexState) → row s class.Digit ≡ go t → (b : ℕ) → is_leading b ≡ true → move s b ≡ go t
leading_goes s t d b h = of_set is_leading (λ c. row s c ≡ go t) (class.Digit ∷ []) (d, tt) refl b (leading_small b h) h

exponent_goes : (s t : LexState) → row s class.LowE ≡ go t → row s class.UpE ≡ go t → (b : ℕ) → is_exponent b ≡ true → move s b ≡ go t
exponent_goes s t l u b h = of_set is_exponent (λ c. row s c ≡ go t) (class.LowE ∷ class.UpE ∷ []) (l, (u, tt)) refl b (exponent_small b h) h

sign_goes : (b : ℕ) → is_sign b ≡ true → move state.E b ≡ go state.ESign
sign_goes b h = of_set is_sign (λ c. row state.E c ≡ go state.ESign) (class.Plus ∷ class.Minus ∷ []) (refl, (refl, tt)) refl b (sign_small b h) h

pub is_number : (b n : ℕ) → (b == n) ≡ true → b ≡ n
is_number b n h = grind (arith, nat_tests)

point_goes : (s : LexState) → row s class.Dot ≡ go state.Dot → (b : ℕ) → (b == 0x2e) ≡ true → move s b ≡ go state.Dot
unfolding class_at
point_goes s d b h = ap (move s) (is_number b 0x2e h) ∙ d

zero_goes : (b : ℕ) → (b == 0x30) ≡ true → move state.Minus b ≡ go state.Zero
unfolding class_at
zero_goes b h = ap (move state.Minus) (is_number b 0x30 h)

leading_from : (b : ℕ) → is_leading b ≡ true → 0x31 ≤ b
leading_from b h = grind (arith, nat_tests)

leading_to : (b : ℕ) → is_leading b ≡ true → b ≤ 0x39
leading_to b h = grind (arith, nat_tests)

-- no byte is of two classes
digit_no_minus : (b : ℕ) → is_digit b ≡ true → (b == 0x2d) ≡ false
digit_no_minus b h = grind (arith, nat_tests)

digit_no_point : (b : ℕ) → is_digit b ≡ true → (b == 0x2e) ≡ false
digit_no_point b h = grind (arith, nat_tests)

digit_no_exponent : (b : ℕ) → is_digit b ≡ true → is_exponent b ≡ false
digit_no_exponent b h = grind (arith, nat_tests)

digit_no_sign : (b : ℕ) → is_digit b ≡ true → is_sign b ≡ false
digit_no_sign b h = grind (arith, nat_tests)

sign_no_exponent : (b : ℕ) → is_sign b ≡ true → is_exponent b ≡ false
sign_no_exponent b h = grind (arith, nat_tests)

point_no_exponent : (b : ℕ) → (b == 0x2e) ≡ true → is_exponent b ≡ false
point_no_exponent b h = grind (arith, nat_tests)

minus_no_point : (b : ℕ) → (b == 0x2d) ≡ true → (b == 0x2e) ≡ false
minus_no_point b h = grind (arith, nat_tests)

minus_sign : (b : ℕ) → (b == 0x2d) ≡ true → is_sign b ≡ true
minus_sign b h = grind (arith, nat_tests)

plus_sign : (b : ℕ) → (b == 0x2b) ≡ true → is_sign b ≡ true
plus_sign b h = grind (arith, nat_tests)

clash : {A : Type 0} (t : Bool) → t ≡ true → t ≡ false → A
clash t set none = let never : true ≡ false = sym set ∙ none in absurd cc

both_true : (a b : Bool) → a ≡ true → b ≡ true → (a && b) ≡ true
both_true a b h k = (λ i. h i && k i)

not_true : (a : Bool) → a ≡ false → not a ≡ true
not_true a h = ap not h

was_false : (a : Bool) → not a ≡ true → a ≡ false
was_false true h = cc
was_false false h = refl

no_either : (a b : Bool) → not (a || b) ≡ true → (a ≡ false) × (b ≡ false)
no_either true b h = absurd cc
no_either false true h = absurd cc
no_either false false h = (refl, refl)

and_none : (a : Bool) → (a && false) ≡ false
and_none true = refl
and_none false = refl

and_all : (a : Bool) → (a && true) ≡ a
and_all true = refl
and_all false = refl

no_bit : (b : Bool) → (b ≡ true → true ≡ false) → b ≡ false
no_bit true h = h refl
no_bit false h = refl

-- Where the machine stands behind byte k of a block, by whether the byte is of a fraction and of an exponent.
data Stands (words : NumberWords) (first fraction power : ℕ → Bool) (byte k : ℕ) : LexState → Type 0 where
  in_power : is_digit byte ≡ true → power k ≡ true → Stands words first fraction power byte k state.Exp
  in_fraction : is_digit byte ≡ true → power k ≡ false → fraction k ≡ true → Stands words first fraction power byte k state.Frac
  in_zero : is_digit byte ≡ true → power k ≡ false → fraction k ≡ false → (first k || behind (λ j. first j && bit words.minuses j) k) ≡ true → (byte == 0x30) ≡ true
      → Stands words first fraction power byte k state.Zero
  in_whole : is_digit byte ≡ true → power k ≡ false → fraction k ≡ false → Stands words first fraction power byte k state.Int
  in_minus : (byte == 0x2d) ≡ true → power k ≡ false → fraction k ≡ false → (first k && bit words.minuses k) ≡ true → Stands words first fraction power byte k state.Minus
  in_point : (byte == 0x2e) ≡ true → power k ≡ false → fraction k ≡ true → Stands words first fraction power byte k state.Dot
  in_letter : is_exponent byte ≡ true → power k ≡ true → Stands words first fraction power byte k state.E
  in_sign : is_sign byte ≡ true → power k ≡ true → Stands words first fraction power byte k state.ESign

module _ (text : List ℕ) (at : ℕ) (words : NumberWords) (number scalar stop first fraction power : ℕ → Bool) (n : ℕ) (few : n < 64) (fits : at + 64 ≤ length text)
    (classes : AreClasses (chunk at 64 text) number first words) (among : (k : ℕ) → k ≤ n → number k ≡ true → scalar k ≡ true)
    (placed : (k : ℕ) → k ≤ n → Placed words first fraction power k)
    (known : (k : ℕ) → k ≤ n → number k ≡ true → ((((bit words.digits k || bit words.minuses k) || bit words.pluses k) || bit words.points k) || bit words.exponents k) ≡ true)
    (last : (k : ℕ) → k ≤ n → number k ≡ true → number (suc k) ≡ false → bit words.digits k ≡ true)
    (next : (k : ℕ) → suc k ≤ n → number k ≡ true → (first (suc k) ≡ false) × (number (suc k) ≡ false → (stop (suc k) ≡ true) × (scalar (suc k) ≡ false)))
    (over : scalar n ≡ false) where
  abbrev byte : ℕ → ℕ
  byte k = get_or text (at + k) 0

  abbrev digit : ℕ → Bool
  digit = bit words.digits

  abbrev minus : ℕ → Bool
  minus = bit words.minuses

  abbrev plus : ℕ → Bool
  plus = bit words.pluses

  abbrev point : ℕ → Bool
  point = bit words.points

  abbrev letter : ℕ → Bool
  letter = bit words.exponents

  abbrev Stand : ℕ → LexState → Type 0
  Stand k = Stands words first fraction power (byte k) k

  low : (k : ℕ) → k ≤ n → k < 64
  low k le = omega arith

  same_byte : (k : ℕ) → k ≤ n → get_or (chunk at 64 text) k 0 ≡ byte k
  same_byte k le = block_byte text at k (low k le)

  is_at : (p : ℕ → Bool) (k : ℕ) (t : Bool) → k ≤ n → p (get_or (chunk at 64 text) k 0) ≡ t → p (byte k) ≡ t
  is_at p k t le h = ap p (sym (same_byte k le)) ∙ h

  digit_is : (k : ℕ) → k ≤ n → digit k ≡ true → is_digit (byte k) ≡ true
  digit_is k le h = is_at is_digit k true le (classes.digit k (low k le) h).1

  minus_is : (k : ℕ) → k ≤ n → minus k ≡ true → (byte k == 0x2d) ≡ true
  minus_is k le h = is_at (λ b. b == 0x2d) k true le (classes.minus k (low k le) h).1

  plus_is : (k : ℕ) → k ≤ n → plus k ≡ true → (byte k == 0x2b) ≡ true
  plus_is k le h = is_at (λ b. b == 0x2b) k true le (classes.plus k (low k le) h).1

  point_is : (k : ℕ) → k ≤ n → point k ≡ true → (byte k == 0x2e) ≡ true
  point_is k le h = is_at (λ b. b == 0x2e) k true le (classes.point k (low k le) h).1

  letter_is : (k : ℕ) → k ≤ n → letter k ≡ true → is_exponent (byte k) ≡ true
  letter_is k le h = is_at is_exponent k true le (classes.exponent k (low k le) h).1

  -- ---- one byte behind another

  -- a byte that is no letter and no point is of a fraction and of an exponent as the one before it is
  no_letter : (k : ℕ) → k ≤ n → is_exponent (byte k) ≡ false → letter k ≡ false
  no_letter k le h = no_bit (letter k) (λ set. sym (letter_is k le set) ∙ h)

  no_point : (k : ℕ) → k ≤ n → (byte k == 0x2e) ≡ false → point k ≡ false
  no_point k le h = no_bit (point k) (λ set. sym (point_is k le set) ∙ h)

  power_kept : (k : ℕ) → suc k ≤ n → letter (suc k) ≡ false → (digit (suc k) || (minus (suc k) || plus (suc k))) ≡ true → power (suc k) ≡ power k
  power_kept k le none set = (placed (suc k) le).power_is ∙ (λ i. none i || (power k && set i)) ∙ and_all (power k)

  power_none : (k : ℕ) → suc k ≤ n → letter (suc k) ≡ false → power k ≡ false → power (suc k) ≡ false
  power_none k le none h = (placed (suc k) le).power_is ∙ (λ i. none i || (h i && (digit (suc k) || (minus (suc k) || plus (suc k)))))

  power_begun : (k : ℕ) → k ≤ n → letter k ≡ true → power k ≡ true
  power_begun k le set = (placed k le).power_is ∙ ap (λ t. t || (behind power k && (digit k || (minus k || plus k)))) set

  fraction_kept : (k : ℕ) → suc k ≤ n → point (suc k) ≡ false → digit (suc k) ≡ true → fraction (suc k) ≡ fraction k
  fraction_kept k le none set = (placed (suc k) le).fraction_is ∙ (λ i. none i || (fraction k && set i)) ∙ and_all (fraction k)

  fraction_begun : (k : ℕ) → k ≤ n → point k ≡ true → fraction k ≡ true
  fraction_begun k le set = (placed k le).fraction_is ∙ ap (λ t. t || (behind fraction k && digit k)) set

  -- the machine goes on with byte k + 1
  abbrev Steps_on : ℕ → LexState → Type 0
  Steps_on k s = (t : LexState) × (move s (byte (suc k)) ≡ go t) × Stand (suc k) t

  digit_step : (k : ℕ) (s : LexState) → suc k ≤ n → digit (suc k) ≡ true → Stand k s → Steps_on k s
  digit_step k s le set stands = by_last stands
    where
      d : is_digit (byte (suc k)) ≡ true
      d = digit_is (suc k) le set

      x : power (suc k) ≡ power k
      x = power_kept k le (no_letter (suc k) le (digit_no_exponent (byte (suc k)) d)) (ap (λ t. t || (minus (suc k) || plus (suc k))) set)

      f : fraction (suc k) ≡ fraction k
      f = fraction_kept k le (no_point (suc k) le (digit_no_point (byte (suc k)) d)) set

      behind_minus : power k ≡ false → fraction k ≡ false → (first k && minus k) ≡ true → ((byte (suc k) == 0x30) ≡ true) ⊎ ((byte (suc k) == 0x30) ≡ false) → Steps_on k state.Minus
      behind_minus p q lead (inl none) = (state.Zero, zero_goes (byte (suc k)) none, in_zero d (x ∙ p) (f ∙ q) (or_right (first (suc k)) (first k && minus k) lead) none)
      behind_minus p q lead (inr other) = (state.Int, leading_goes state.Minus state.Int refl (byte (suc k)) (both_true _ _ d (not_true _ other)), in_whole d (x ∙ p) (f ∙ q))

      by_last : {s : LexState} → Stand k s → Steps_on k s
      by_last (in_power h p) = (state.Exp, digit_goes state.Exp state.Exp refl refl (byte (suc k)) d, in_power d (x ∙ p))
      by_last (in_fraction h p q) = (state.Frac, digit_goes state.Frac state.Frac refl refl (byte (suc k)) d, in_fraction d (x ∙ p) (f ∙ q))
      by_last (in_zero h p q lead none) =
          clash (byte k == 0x30) none (is_at (λ b. b == 0x30) k false (omega arith) (classes.zero k (low k (omega arith)) lead set ((placed k (omega arith)).zero)))
      by_last (in_whole h p q) = (state.Int, digit_goes state.Int state.Int refl refl (byte (suc k)) d, in_whole d (x ∙ p) (f ∙ q))
      by_last (in_minus h p q lead) = behind_minus p q lead (cases_Bool (byte (suc k) == 0x30))
      by_last (in_point h p q) = (state.Frac, digit_goes state.Dot state.Frac refl refl (byte (suc k)) d, in_fraction d (x ∙ p) (f ∙ q))
      by_last (in_letter h p) = (state.Exp, digit_goes state.E state.Exp refl refl (byte (suc k)) d, in_power d (x ∙ p))
      by_last (in_sign h p) = (state.Exp, digit_goes state.ESign state.Exp refl refl (byte (suc k)) d, in_power d (x ∙ p))

  sign_step : (k : ℕ) (s : LexState) → suc k ≤ n → number k ≡ true → (minus (suc k) || plus (suc k)) ≡ true → is_sign (byte (suc k)) ≡ true → Stand k s → Steps_on k s
  sign_step k s le here set is stands = by_last stands
    where
      after_letter : is_exponent (byte k) ≡ true
      after_letter = letter_is k (omega arith) (sym (ap (λ t. t || letter k) (next k le here).0) ∙ (placed (suc k) le).sign set)

      x : power (suc k) ≡ power k
      x = power_kept k le (no_letter (suc k) le (sign_no_exponent (byte (suc k)) is)) (or_right (digit (suc k)) (minus (suc k) || plus (suc k)) set)

      by_last : {s : LexState} → Stand k s → Steps_on k s
      by_last (in_power h p) = clash _ after_letter (digit_no_exponent (byte k) h)
      by_last (in_fraction h p q) = clash _ after_letter (digit_no_exponent (byte k) h)
      by_last (in_zero h p q lead none) = clash _ after_letter (digit_no_exponent (byte k) h)
      by_last (in_whole h p q) = clash _ after_letter (digit_no_exponent (byte k) h)
      by_last (in_minus h p q lead) = clash _ after_letter (sign_no_exponent (byte k) (minus_sign (byte k) h))
      by_last (in_point h p q) = clash _ after_letter (point_no_exponent (byte k) h)
      by_last (in_letter h p) = (state.ESign, sign_goes (byte (suc k)) is, in_sign is (x ∙ p))
      by_last (in_sign h p) = clash _ after_letter (sign_no_exponent (byte k) h)

  point_step : (k : ℕ) (s : LexState) → suc k ≤ n → point (suc k) ≡ true → Stand k s → Steps_on k s
  point_step k s le set stands = by_last stands
    where
      is : (byte (suc k) == 0x2e) ≡ true
      is = point_is (suc k) le set

      behind_whole : (digit k && not (fraction k || power k)) ≡ true
      behind_whole = (placed (suc k) le).point set

      d : is_digit (byte k) ≡ true
      d = digit_is k (omega arith) (and_left (digit k) _ behind_whole)

      parts : (fraction k ≡ false) × (power k ≡ false)
      parts = no_either (fraction k) (power k) (and_right (digit k) _ behind_whole)

      here : Stand (suc k) state.Dot
      here = in_point is (power_none k le (no_letter (suc k) le (point_no_exponent (byte (suc k)) is)) parts.1) (fraction_begun (suc k) le set)

      by_last : {s : LexState} → Stand k s → Steps_on k s
      by_last (in_power h p) = clash _ p parts.1
      by_last (in_fraction h p q) = clash _ q parts.0
      by_last (in_zero h p q lead none) = (state.Dot, point_goes state.Zero refl (byte (suc k)) is, here)
      by_last (in_whole h p q) = (state.Dot, point_goes state.Int refl (byte (suc k)) is, here)
      by_last (in_minus h p q lead) = clash _ h (digit_no_minus (byte k) d)
      by_last (in_point h p q) = clash _ q parts.0
      by_last (in_letter h p) = clash _ p parts.1
      by_last (in_sign h p) = clash _ p parts.1

  letter_step : (k : ℕ) (s : LexState) → suc k ≤ n → letter (suc k) ≡ true → Stand k s → Steps_on k s
  letter_step k s le set stands = by_last stands
    where
      is : is_exponent (byte (suc k)) ≡ true
      is = letter_is (suc k) le set

      behind_digit : (digit k && not (power k)) ≡ true
      behind_digit = (placed (suc k) le).exponent set

      d : is_digit (byte k) ≡ true
      d = digit_is k (omega arith) (and_left (digit k) _ behind_digit)

      none : power k ≡ false
      none = was_false (power k) (and_right (digit k) _ behind_digit)

      here : Stand (suc k) state.E
      here = in_letter is (power_begun (suc k) le set)

      by_last : {s : LexState} → Stand k s → Steps_on k s
      by_last (in_power h p) = clash _ p none
      by_last (in_fraction h p q) = (state.E, exponent_goes state.Frac state.E refl refl (byte (suc k)) is, here)
      by_last (in_zero h p q lead none) = (state.E, exponent_goes state.Zero state.E refl refl (byte (suc k)) is, here)
      by_last (in_whole h p q) = (state.E, exponent_goes state.Int state.E refl refl (byte (suc k)) is, here)
      by_last (in_minus h p q lead) = clash _ h (digit_no_minus (byte k) d)
      by_last (in_point h p q) = clash _ h (digit_no_point (byte k) d)
      by_last (in_letter h p) = clash _ p none
      by_last (in_sign h p) = clash _ p none

  step : (k : ℕ) (s : LexState) → suc k ≤ n → number k ≡ true → number (suc k) ≡ true → Stand k s → Steps_on k s
  step k s le here there stands = by_class (cases_Bool (digit (suc k))) (cases_Bool (minus (suc k))) (cases_Bool (plus (suc k))) (cases_Bool (point (suc k)))
    where
      by_class : (digit (suc k) ≡ true) ⊎ (digit (suc k) ≡ false) → (minus (suc k) ≡ true) ⊎ (minus (suc k) ≡ false) → (plus (suc k) ≡ true) ⊎ (plus (suc k) ≡ false)
          → (point (suc k) ≡ true) ⊎ (point (suc k) ≡ false) → Steps_on k s
      by_class (inl d) m p o = digit_step k s le d stands
      by_class (inr d) (inl m) p o = sign_step k s le here (ap (λ t. t || plus (suc k)) m) (minus_sign (byte (suc k)) (minus_is (suc k) le m)) stands
      by_class (inr d) (inr m) (inl p) o = sign_step k s le here (or_right (minus (suc k)) (plus (suc k)) p) (plus_sign (byte (suc k)) (plus_is (suc k) le p)) stands
      by_class (inr d) (inr m) (inr p) (inl o) = point_step k s le o stands
      by_class (inr d) (inr m) (inr p) (inr o) = letter_step k s le (sym (λ i. (((d i || m i) || p i) || o i) || letter (suc k)) ∙ known (suc k) le there) stands

  -- ---- the first byte

  none_there : (w : ℕ → Bool) (k : ℕ) → number k ≡ false → (w k ≡ true → number k ≡ true) → w k ≡ false
  none_there w k none of = no_bit (w k) (λ set. sym (of set) ∙ none)

  outside : (k : ℕ) → k ≤ n → number k ≡ false → (fraction k ≡ false) × (power k ≡ false)
  outside k le none =
      let lt = low k le in
      let d = none_there digit k none (λ set. (classes.digit k lt set).0) in
      let m = none_there minus k none (λ set. (classes.minus k lt set).0) in
      let p = none_there plus k none (λ set. (classes.plus k lt set).0) in
      let o = none_there point k none (λ set. (classes.point k lt set).0) in
      let e = none_there letter k none (λ set. (classes.exponent k lt set).0) in (
        (placed k le).fraction_is ∙ (λ i. o i || (behind fraction k && d i)) ∙ and_none (behind fraction k),
        (placed k le).power_is ∙ (λ i. e i || (behind power k && (d i || (m i || p i)))) ∙ and_none (behind power k),
      )

  before : (k : ℕ) → k ≤ n → first k ≡ true → (behind fraction k ≡ false) × (behind power k ≡ false)
  before zero le set = (refl, refl)
  before (suc j) le set = by_bit (cases_Bool (number j))
    where
      by_bit : (number j ≡ true) ⊎ (number j ≡ false) → (fraction j ≡ false) × (power j ≡ false)
      by_bit (inl more) = clash (first (suc j)) set (next j le more).0
      by_bit (inr none) = outside j (omega arith) none

  abbrev Begins : ℕ → Type 0
  Begins k = (s : LexState) × (move state.Gap (byte k) ≡ begin Number s) × Stand k s × (number k ≡ true)

  begins : (k : ℕ) → k ≤ n → first k ≡ true → Begins k
  begins k le set = by_class (cases_Bool (digit k))
    where
      fresh : (behind fraction k ≡ false) × (behind power k ≡ false)
      fresh = before k le set

      no_power : is_exponent (byte k) ≡ false → power k ≡ false
      no_power h = (placed k le).power_is ∙ (λ i. no_letter k le h i || (fresh.1 i && (digit k || (minus k || plus k))))

      no_fraction : (byte k == 0x2e) ≡ false → fraction k ≡ false
      no_fraction h = (placed k le).fraction_is ∙ (λ i. no_point k le h i || (fresh.0 i && digit k))

      by_zero : digit k ≡ true → is_digit (byte k) ≡ true → ((byte k == 0x30) ≡ true) ⊎ ((byte k == 0x30) ≡ false) → Begins k
      by_zero w d (inl none) = (
        state.Zero,
        begins-zero (byte k) (is_number (byte k) 0x30 none),
        in_zero d (no_power (digit_no_exponent (byte k) d)) (no_fraction (digit_no_point (byte k) d)) (ap (λ t. t || behind (λ j. first j && minus j) k) set) none,
        (classes.digit k (low k le) w).0,
      )
      by_zero w d (inr other) =
          let lead : is_leading (byte k) ≡ true = both_true _ _ d (not_true _ other) in (
            state.Int,
            begins-digit (byte k) (leading_from (byte k) lead) (leading_to (byte k) lead),
            in_whole d (no_power (digit_no_exponent (byte k) d)) (no_fraction (digit_no_point (byte k) d)),
            (classes.digit k (low k le) w).0,
          )

      by_class : (digit k ≡ true) ⊎ (digit k ≡ false) → Begins k
      by_class (inl w) = by_zero w (digit_is k le w) (cases_Bool (byte k == 0x30))
      by_class (inr none) =
          let m : minus k ≡ true = sym (ap (λ t. t || minus k) none) ∙ (placed k le).begun set in
          let is = minus_is k le m in (
            state.Minus,
            begins-minus (byte k) (is_number (byte k) 0x2d is),
            in_minus is (no_power (sign_no_exponent (byte k) (minus_sign (byte k) is))) (no_fraction (minus_no_point (byte k) is)) (both_true _ _ set m),
            (classes.minus k (low k le) m).0,
          )

  -- ---- the walk

  ends_there : (k : ℕ) (s : LexState) → is_digit (byte k) ≡ true → Stand k s → MayEnd s
  ends_there k s d stands = by_last stands
    where
      by_last : {s : LexState} → Stand k s → MayEnd s
      by_last (in_power h p) = exp-ends
      by_last (in_fraction h p q) = frac-ends
      by_last (in_zero h p q lead none) = zero-ends
      by_last (in_whole h p q) = int-ends
      by_last (in_minus h p q lead) = clash _ h (digit_no_minus (byte k) d)
      by_last (in_point h p q) = clash _ h (digit_no_point (byte k) d)
      by_last (in_letter h p) = clash _ h (digit_no_exponent (byte k) d)
      by_last (in_sign h p) = clash _ h (digit_no_sign (byte k) d)

  module _ (k : ℕ) (s0 : LexState) (begun : move state.Gap (byte k) ≡ begin Number s0) where
    abbrev Led : ℕ → LexState → Type 0
    Led j s = Leads s0 (slice_range text (at + k + 1) (at + suc j)) s

    led_on : (j : ℕ) (s t : LexState) → k ≤ j → suc j ≤ n → Led j s → move s (byte (suc j)) ≡ go t → Led (suc j) t
    led_on j s t from le led goes =
        let e : at + suc (suc j) ≡ at + suc j + 1 = omega arith in
        subst (λ xs. Leads s0 xs t) (sym (ap (slice_range text (at + k + 1)) e ∙ slice-more text (at + k + 1) (at + suc j) 0 (omega arith) (omega arith)))
        (Leads-append s0 s t (slice_range text (at + k + 1) (at + suc j)) (byte (suc j) ∷ []) led (t, goes, refl))

    more_run : (j : ℕ) → ((i : ℕ) → k ≤ i → i < j → scalar i ≡ true) → scalar j ≡ true → (i : ℕ) → k ≤ i → i < suc j → scalar i ≡ true
    more_run j run here i from to = by_order (cases_lt i j)
      where
        by_order : (i < j) ⊎ (j ≤ i) → scalar i ≡ true
        by_order (inl lt) = run i from lt
        by_order (inr ge) = let e : i ≡ j = omega arith in ap scalar e ∙ here

    inside : (j : ℕ) → j ≤ n → scalar j ≡ true → j < n
    inside j le set = by_order (cases_lt j n)
      where
        by_order : (j < n) ⊎ (n ≤ j) → j < n
        by_order (inl lt) = lt
        by_order (inr ge) = let e : j ≡ n = omega arith in clash (scalar j) set (ap scalar e ∙ over)

    ended : (j : ℕ) (s : LexState) → k ≤ j → suc j ≤ n → number j ≡ true → number (suc j) ≡ false → ((i : ℕ) → k ≤ i → i < suc j → scalar i ≡ true) → Led j s → Stand j s → IsWhole text at scalar stop k
    ended j s from le here none run led stands =
        let behind_it = (next j le here).1 none in
        record {
          end = suc j;
          low = omega arith;
          high = omega arith;
          run = run;
          over = behind_it.1;
          stops = behind_it.0;
          is = inl
              (passes-number text (at + k) (at + suc j) s0 s (omega arith) (omega arith) (omega arith) begun led
              (ends_there j s (digit_is j (omega arith) (last j (omega arith) here none)) stands));
        }

    -- from byte j of the run on
    abbrev From : ℕ → Type 0
    From fuel =
        (j : ℕ) (s : LexState) → n ≤ j + fuel → k ≤ j → j ≤ n → number j ≡ true → ((i : ℕ) → k ≤ i → i < j → scalar i ≡ true) → Led j s → Stand j s
        → IsWhole text at scalar stop k

    go_on : (fuel : ℕ) → From fuel
    go_on zero j s most from le here run led stands = let lt = inside j le (among j le here) in absurd (omega (arith, lt))
    go_on (suc fuel) j s most from le here run led stands = by_bit (cases_Bool (number (suc j))) (go_on fuel)
      where
        up : j < n
        up = inside j le (among j le here)

        by_bit : (number (suc j) ≡ true) ⊎ (number (suc j) ≡ false) → From fuel → IsWhole text at scalar stop k
        by_bit (inr none) on = ended j s from (omega (arith, up)) here none (more_run j run (among j le here)) led stands
        by_bit (inl more) on =
            let t = step j s (omega (arith, up)) here more stands in
            on (suc j) t.0 (omega arith) (omega arith) (omega (arith, up)) more (more_run j run (among j le here)) (led_on j s t.0 from (omega (arith, up)) led t.1) t.2

  -- a number begins, and nothing up to byte n is wrong
  pub whole_number : (k : ℕ) → k ≤ n → first k ≡ true → IsWhole text at scalar stop k
  whole_number k le set =
      let b = begins k le set in
      let e : at + k + 1 ≡ at + suc k = omega arith in
      go_on k b.0 b.1 n k b.0 (omega arith) (omega arith) le b.3 (λ i from to. absurd (omega arith))
      (subst (λ xs. Leads b.0 xs b.0) (sym (ap (λ a. slice_range text a (at + suc k)) e ∙ slice-none text (at + suc k))) refl) b.2
