-- The bytes that stand for a name while its object is open, and a key of these bytes. Names have equal units just where they have equal bytes.
use Rattle.std.specs.Prelude.{ℕ, zero, suc, ◌+◌, ◌-◌, ◌*◌, ◌/◌, ◌%◌, ◌^◌, ◌&&◌, List, [], ◌∷◌, Bool, true, length, nat_lt, slice_index, if◌then◌else◌}
use Rattle.std.specs.Int.{w32, w64, from_le_bytes}

-- ---- bytes

-- each unit is below 80 in hexadecimal
abbrev pub are_ascii : List ℕ → Bool
are_ascii [] = true
are_ascii (unit ∷ units) = nat_lt unit 0x80 && are_ascii units

-- two bytes a unit
abbrev pub by_two : List ℕ → List ℕ
by_two [] = []
by_two (unit ∷ units) = unit / 256 ∷ unit % 256 ∷ by_two units

-- ASCII as it stands; of other units FF, then two bytes a unit
unfoldable pub name_bytes : List ℕ → List ℕ
name_bytes units = if are_ascii units then units else 0xff ∷ by_two units

-- ---- keys

abbrev pub word_at : List ℕ → ℕ → ℕ
word_at b i = from_le_bytes w64
    (slice_index b i ∷ slice_index b (i + 1) ∷ slice_index b (i + 2) ∷ slice_index b (i + 3) ∷ slice_index b (i + 4) ∷ slice_index b (i + 5) ∷ slice_index b (i + 6) ∷ slice_index b (i + 7) ∷ [])

abbrev pub half_at : List ℕ → ℕ → ℕ
half_at b i = from_le_bytes w32 (slice_index b i ∷ slice_index b (i + 1) ∷ slice_index b (i + 2) ∷ slice_index b (i + 3) ∷ [])

-- a key with one number more
abbrev pub next_key : ℕ → ℕ → ℕ
next_key key word = (key + word) % 2 ^ 64 * 0x9e3779b97f4a7c15 % 2 ^ 64

-- of the first words, so many
unfoldable pub words_key : List ℕ → ℕ → ℕ
words_key bytes zero = length bytes
words_key bytes (suc n) = next_key (words_key bytes n) (word_at bytes (8 * n))

-- of the first bytes, so many
unfoldable pub bytes_key : List ℕ → ℕ → ℕ
bytes_key bytes zero = length bytes
bytes_key bytes (suc n) = next_key (bytes_key bytes n) (slice_index bytes n)

-- words up to the last whole one, and the last eight bytes; of few bytes the first four and the last four, or each
unfoldable pub key_of_bytes : List ℕ → ℕ
key_of_bytes bytes =
    if nat_lt (length bytes) 4 then bytes_key bytes (length bytes) else
    if nat_lt (length bytes) 8 then next_key (next_key (length bytes) 0) ((half_at bytes 0 + half_at bytes (length bytes - 4) * 2 ^ 32 % 2 ^ 64) % 2 ^ 64) else
    if nat_lt (length bytes) 16 then next_key (next_key (length bytes) (word_at bytes 0)) (word_at bytes (length bytes - 8)) else
    next_key (words_key bytes (length bytes / 8)) (word_at bytes (length bytes - 8))
