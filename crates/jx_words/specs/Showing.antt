-- Text of one line, as messages show it.
use Rattle.std.specs.Prelude.{ℕ, ◌+◌, ◌/◌, ◌%◌, List, [], ◌∷◌, ◌++◌, ◌==◌, ◌&&◌, ◌||◌, Bool, true, false, nat_le, nat_lt, if◌then◌else◌}
use Rattle.std.specs.Char.{encode_utf8}
use Rattle.std.specs.List.{flat_map}
use Rattle.std.specs.Str.{chars}

-- a character that is shown by its bytes: a backslash, and what a terminal does not print but obeys, which are control characters
-- (Unicode, section 23.1), line and paragraph separators and the controls of direction (section 23.2)
abbrev pub is_hidden : ℕ → Bool
is_hidden code =
    nat_lt code 0x20 || code == 0x5c || (nat_le 0x7f code && nat_lt code 0xa0)
    || (nat_le 0x2028 code && nat_lt code 0x202f) || (nat_le 0x2066 code && nat_lt code 0x206a)

abbrev pub hex_digit : ℕ → ℕ
hex_digit value = if nat_lt value 10 then 48 + value else 55 + value

-- a byte as \xHH
abbrev pub shown_byte : ℕ → List ℕ
shown_byte byte = 92 ∷ 120 ∷ hex_digit (byte / 16) ∷ hex_digit (byte % 16) ∷ []

abbrev pub escaped : List ℕ → List ℕ
escaped bytes = flat_map shown_byte bytes

-- a character, which may follow a colon. A zero, which no name has, stands in front of the two digits of a byte that is not UTF-8
abbrev pub shown_character : Bool → ℕ → List ℕ
shown_character is_behind_colon code =
    if code == 0 then 92 ∷ 120 ∷ []
    else (if is_hidden code || (is_behind_colon && code == 32) then escaped (encode_utf8 code) else encode_utf8 code)

-- characters, the first of which may follow a colon
abbrev pub shown_from : Bool → List ℕ → List ℕ
shown_from is_behind_colon [] = []
shown_from is_behind_colon (code ∷ codes) = shown_character is_behind_colon code ++ shown_from (code == 58) codes

-- a name in UTF-8
abbrev pub shown : List ℕ → List ℕ
shown name = shown_from false (chars name)
