-- A character of a text: the well-formed sequences of UTF-8 (RFC 3629, section 4).
use Rattle.std.specs.Prelude.{ℕ, ◌+◌, ◌-◌, ◌*◌, ◌≤◌, List, [], ◌∷◌}

-- from the first byte to the last one, both included
pub record IsWithin (first last byte : ℕ) : Type 0 where
  pub from : first ≤ byte
  pub to : byte ≤ last

-- the bytes that follow the first one of a character
abbrev pub IsTail : ℕ → Type 0
IsTail byte = IsWithin 0x80 0xbf byte

-- the six payload bits of a tail
abbrev pub tail_bits : ℕ → ℕ
tail_bits byte = byte - 0x80

-- the number that two bytes after the first give, and that three give
abbrev pub two_tails : ℕ → ℕ → ℕ
two_tails b c = tail_bits b * 64 + tail_bits c

abbrev pub three_tails : ℕ → ℕ → ℕ → ℕ
three_tails b c d = tail_bits b * 4096 + two_tails c d

-- the bytes of a character, and its number: no overlong form, no surrogate, nothing above 10FFFF
pub data Utf8 : List ℕ → ℕ → Type 0 where
  one : {a : ℕ} → a ≤ 0x7f → Utf8 (a ∷ []) a
  two : {a b : ℕ} → IsWithin 0xc2 0xdf a → IsTail b → Utf8 (a ∷ b ∷ []) ((a - 0xc0) * 64 + tail_bits b)
  three_e0 : {b c : ℕ} → IsWithin 0xa0 0xbf b → IsTail c → Utf8 (0xe0 ∷ b ∷ c ∷ []) (two_tails b c)
  three_low : {a b c : ℕ} → IsWithin 0xe1 0xec a → IsTail b → IsTail c → Utf8 (a ∷ b ∷ c ∷ []) ((a - 0xe0) * 4096 + two_tails b c)
  three_ed : {b c : ℕ} → IsWithin 0x80 0x9f b → IsTail c → Utf8 (0xed ∷ b ∷ c ∷ []) (0xd000 + two_tails b c)
  three_high : {a b c : ℕ} → IsWithin 0xee 0xef a → IsTail b → IsTail c → Utf8 (a ∷ b ∷ c ∷ []) ((a - 0xe0) * 4096 + two_tails b c)
  four_f0 : {b c d : ℕ} → IsWithin 0x90 0xbf b → IsTail c → IsTail d → Utf8 (0xf0 ∷ b ∷ c ∷ d ∷ []) (three_tails b c d)
  four_mid : {a b c d : ℕ} → IsWithin 0xf1 0xf3 a → IsTail b → IsTail c → IsTail d → Utf8 (a ∷ b ∷ c ∷ d ∷ []) ((a - 0xf0) * 262144 + three_tails b c d)
  four_f4 : {b c d : ℕ} → IsWithin 0x80 0x8f b → IsTail c → IsTail d → Utf8 (0xf4 ∷ b ∷ c ∷ d ∷ []) (0x100000 + three_tails b c d)
