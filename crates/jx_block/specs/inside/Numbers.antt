-- The bytes of numbers, as words of bits (RFC 8259, section 6).
use Rattle.std.specs.Prelude.{◌≡◌, ◌<◌, ℕ, suc, Bool, true, false, not, ◌&&◌, ◌||◌, ◌==◌, List, get_or}
use Rattle.jx_lex.specs.Uneventful.{is_digit}
use Rattle.jx_lex.specs.inside.Bits.{bit}
use Rattle.jx_block.specs.declared.numbers.NumberWords.{NumberWords}
use Rattle.jx_block.specs.inside.Planes.{is_exponent}
use Rattle.jx_block.specs.inside.Words.{behind}

-- each word has only bytes of its class, and only those of numbers
pub record AreClasses (block : List ℕ) (number first : ℕ → Bool) (words : NumberWords) : Type 0 where
  pub digit : (k : ℕ) → k < 64 → bit words.digits k ≡ true → (number k ≡ true) × (is_digit (get_or block k 0) ≡ true)
  pub minus : (k : ℕ) → k < 64 → bit words.minuses k ≡ true → (number k ≡ true) × ((get_or block k 0 == 0x2d) ≡ true)
  pub plus : (k : ℕ) → k < 64 → bit words.pluses k ≡ true → (number k ≡ true) × ((get_or block k 0 == 0x2b) ≡ true)
  pub point : (k : ℕ) → k < 64 → bit words.points k ≡ true → (number k ≡ true) × ((get_or block k 0 == 0x2e) ≡ true)
  pub exponent : (k : ℕ) → k < 64 → bit words.exponents k ≡ true → (number k ≡ true) × (is_exponent (get_or block k 0) ≡ true)
  -- no digit follows a leading zero, but where a bit shows it
  pub zero : (k : ℕ) → k < 64 → (first k || behind (λ j. first j && bit words.minuses j) k) ≡ true → bit words.digits (suc k) ≡ true → bit words.wrong_zeros k ≡ false → (get_or block k 0 == 0x30) ≡ false

-- Byte k stands where it may, behind the byte before it. Two words say which bytes are of a fraction, from its point on, and which of an
-- exponent, from its letter on.
pub record Placed (words : NumberWords) (first fraction power : ℕ → Bool) (k : ℕ) : Type 0 where
  pub fraction_is : fraction k ≡ (bit words.points k || (behind fraction k && bit words.digits k))
  pub power_is : power k ≡ (bit words.exponents k || (behind power k && (bit words.digits k || (bit words.minuses k || bit words.pluses k))))
  pub sign : (bit words.minuses k || bit words.pluses k) ≡ true → (first k || behind (bit words.exponents) k) ≡ true
  pub point : bit words.points k ≡ true → behind (λ j. bit words.digits j && not (fraction j || power j)) k ≡ true
  pub exponent : bit words.exponents k ≡ true → behind (λ j. bit words.digits j && not (power j)) k ≡ true
  pub zero : bit words.wrong_zeros k ≡ false
  pub begun : first k ≡ true → (bit words.digits k || bit words.minuses k) ≡ true

-- so does each byte at which a word has no bit
pub record ArePlaced (words : NumberWords) (first : ℕ → Bool) (wrong : ℕ) : Type 0 where
  pub fraction : ℕ → Bool
  pub power : ℕ → Bool
  pub placed : (k : ℕ) → k < 64 → bit wrong k ≡ false → Placed words first fraction power k
