-- The tokens that the bits of a word list, by their kinds.
use Rattle.std.specs.Prelude.{◌≡◌, ◌<◌, ◌+◌, ℕ, Bool, true, ◌==◌, ◌&&◌, ◌||◌, nat_le, List, get_or}
use Rattle.jx_block.specs.Listed.{is_set}
use Rattle.jx_block.specs.declared.kinds.TokenKinds.{TokenKinds}

-- the first byte of a number or of a literal
abbrev pub begins_scalar : ℕ → Bool
begins_scalar byte = (nat_le 0x30 byte && nat_le byte 0x39) || byte == 0x2d || byte == 0x74 || byte == 0x66 || byte == 0x6e

-- a word has the bits of another at whose places a byte stands that passes a test
abbrev pub Among : (text : List ℕ) (at starts word : ℕ) → (ℕ → Bool) → Type 0
Among text at starts word test = (k : ℕ) → k < 64 → is_set word k ≡ (is_set starts k && test (get_or text (at + k) 0))

-- each token that begins in a block, by its first byte
pub record AreKinds (text : List ℕ) (at starts : ℕ) (kinds : TokenKinds) : Type 0 where
  pub commas : Among text at starts kinds.commas (λ byte. byte == 0x2c)
  pub colons : Among text at starts kinds.colons (λ byte. byte == 0x3a)
  pub strings : Among text at starts kinds.strings (λ byte. byte == 0x22)
  pub scalars : Among text at starts kinds.scalars begins_scalar
  pub open_arrays : Among text at starts kinds.open_arrays (λ byte. byte == 0x5b)
  pub close_arrays : Among text at starts kinds.close_arrays (λ byte. byte == 0x5d)
  pub open_objects : Among text at starts kinds.open_objects (λ byte. byte == 0x7b)
  pub close_objects : Among text at starts kinds.close_objects (λ byte. byte == 0x7d)
  pub all : (k : ℕ) → k < 64 → is_set starts k ≡ true
      → (((((((is_set kinds.commas k || is_set kinds.colons k) || is_set kinds.strings k) || is_set kinds.scalars k) || is_set kinds.open_arrays k) || is_set kinds.close_arrays k) || is_set kinds.open_objects k) || is_set kinds.close_objects k) ≡ true
