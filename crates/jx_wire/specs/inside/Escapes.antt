-- How the bytes of a text are written in a string.
use Rattle.std.specs.Prelude.{ℕ, Bool, ◌/◌, ◌%◌, ◌==◌, ◌||◌, nat_lt, if◌then◌else◌, List, [], ◌∷◌}
use Rattle.std.specs.Char.{digit_char}
use Rattle.std.specs.List.{flat_map}

-- a byte that may not stand for itself: a quotation mark, a backslash or a control character
abbrev pub is_special : ℕ → Bool
is_special byte = byte == 0x22 || byte == 0x5c || nat_lt byte 0x20

-- by the escape \u00hh where it may not stand for itself
abbrev pub spelt : ℕ → List ℕ
spelt byte = if is_special byte then 0x5c ∷ 0x75 ∷ 0x30 ∷ 0x30 ∷ digit_char (byte / 16) ∷ digit_char (byte % 16) ∷ [] else byte ∷ []

abbrev pub all_spelt : List ℕ → List ℕ
all_spelt bytes = flat_map spelt bytes
