-- XXH64 with the seed 0, a digest of a list of bytes. A word is a number below 2 ^ 64.
use Rattle.std.specs.Prelude.{ℕ, zero, suc, ◌+◌, ◌-◌, ◌*◌, ◌/◌, ◌%◌, ◌^◌, List, [], ◌∷◌, length, bit_xor, slice_index, nat_lt, if◌then◌else◌}
use Rattle.std.specs.Int.{w32, w64, rotate_left, from_le_bytes}
use Rattle.jx_file_index.specs.declared.digest.Lanes.{Lanes}

-- the carry out of a word is dropped
abbrev pub add : ℕ → ℕ → ℕ
add x y = (x + y) % 2 ^ 64

abbrev pub mul : ℕ → ℕ → ℕ
mul x y = (x * y) % 2 ^ 64

-- ---- its five primes

abbrev pub prime_1 : ℕ
prime_1 = 0x9E3779B185EBCA87

abbrev pub prime_2 : ℕ
prime_2 = 0xC2B2AE3D27D4EB4F

abbrev pub prime_3 : ℕ
prime_3 = 0x165667B19E3779F9

abbrev pub prime_4 : ℕ
prime_4 = 0x85EBCA77C2B2AE63

abbrev pub prime_5 : ℕ
prime_5 = 0x27D4EB2F165667C5

-- ---- words, low byte first

-- eight bytes
abbrev pub word_at : List ℕ → ℕ → ℕ
word_at b i = from_le_bytes w64
    (slice_index b i ∷ slice_index b (i + 1) ∷ slice_index b (i + 2) ∷ slice_index b (i + 3) ∷ slice_index b (i + 4) ∷ slice_index b (i + 5) ∷ slice_index b (i + 6) ∷ slice_index b (i + 7) ∷ [])

-- four bytes
abbrev pub half_at : List ℕ → ℕ → ℕ
half_at b i = from_le_bytes w32
    (slice_index b i ∷ slice_index b (i + 1) ∷ slice_index b (i + 2) ∷ slice_index b (i + 3) ∷ [])

-- ---- blocks of 32 bytes, in four lanes

abbrev pub round : ℕ → ℕ → ℕ
round lane word = mul (rotate_left w64 (add lane (mul word prime_2)) 31) prime_1

abbrev pub start : Lanes
start = record { first = add prime_1 prime_2; second = prime_2; third = 0; fourth = 2 ^ 64 - prime_1 }

-- one block more, from an offset on
abbrev pub with_stripe : List ℕ → ℕ → Lanes → Lanes
with_stripe bytes at l = record {
  first = round l.first (word_at bytes at);
  second = round l.second (word_at bytes (at + 8));
  third = round l.third (word_at bytes (at + 16));
  fourth = round l.fourth (word_at bytes (at + 24));
}

-- the first blocks, so many
unfoldable pub lanes_after : List ℕ → ℕ → Lanes
lanes_after bytes zero = start
lanes_after bytes (suc n) = with_stripe bytes (32 * n) (lanes_after bytes n)

abbrev pub merged : ℕ → ℕ → ℕ
merged hash lane = add (mul (bit_xor hash (round 0 lane)) prime_1) prime_4

-- the digest of the lanes
abbrev pub of_lanes : Lanes → ℕ
of_lanes l =
    merged (merged (merged (merged
    (add (add (add (rotate_left w64 l.first 1) (rotate_left w64 l.second 7)) (rotate_left w64 l.third 12)) (rotate_left w64 l.fourth 18))
    l.first) l.second) l.third) l.fourth

-- the digest of all whole blocks
abbrev pub started : List ℕ → ℕ
started bytes = if nat_lt (length bytes) 32 then prime_5 else of_lanes (lanes_after bytes (length bytes / 32))

-- ---- the bytes after the last block

abbrev pub with_word : ℕ → ℕ → ℕ
with_word hash word = add (mul (rotate_left w64 (bit_xor hash (round 0 word)) 27) prime_1) prime_4

abbrev pub with_half : ℕ → ℕ → ℕ
with_half hash half = add (mul (rotate_left w64 (bit_xor hash (mul half prime_1)) 23) prime_2) prime_3

abbrev pub with_byte : ℕ → ℕ → ℕ
with_byte hash byte = mul (rotate_left w64 (bit_xor hash (mul byte prime_5)) 11) prime_1

-- so many words, from an offset on
unfoldable pub words_after : List ℕ → ℕ → ℕ → ℕ → ℕ
words_after bytes at hash zero = hash
words_after bytes at hash (suc n) = with_word (words_after bytes at hash n) (word_at bytes (at + 8 * n))

-- four bytes after the last word, where so many are left
abbrev pub half_after : List ℕ → ℕ → ℕ
half_after bytes hash = if nat_lt (length bytes % 8) 4 then hash else with_half hash (half_at bytes (length bytes / 8 * 8))

-- so many bytes, from an offset on
unfoldable pub bytes_after : List ℕ → ℕ → ℕ → ℕ → ℕ
bytes_after bytes at hash zero = hash
bytes_after bytes at hash (suc n) = with_byte (bytes_after bytes at hash n) (slice_index bytes (at + n))

abbrev pub avalanche : ℕ → ℕ
avalanche hash =
    let x = mul (bit_xor hash (hash / 2 ^ 33)) prime_2 in
    let y = mul (bit_xor x (x / 2 ^ 29)) prime_3 in
    bit_xor y (y / 2 ^ 32)

-- the digest
unfoldable pub xxh64 : List ℕ → ℕ
xxh64 bytes =
    let words = words_after bytes (length bytes / 32 * 32) (add (started bytes) (length bytes)) (length bytes % 32 / 8) in
    avalanche (bytes_after bytes (length bytes / 4 * 4) (half_after bytes words) (length bytes % 4))
