-- Bytes as a terminal shows them: a printed character as it is, and each byte of anything else as `\xHH`.
use Rattle.std.specs.Prelude.{ℕ, ◌/◌, ◌%◌, nat_lt, Bool, true, false, List, [], ◌∷◌, ◌++◌, Option, Some, None, take, drop, if◌then◌else◌}
use Rattle.std.specs.Fmt.{digit_glyph}
use Rattle.std.specs.List.{flat_map}
use Rattle.bstr.specs.Utf8.{Decoded, decoded, pieces}
use Rattle.unicode_width.specs.Width.{char_width}

-- a backslash, an x, and both hexadecimal digits of a byte
abbrev pub escaped_byte : ℕ → List ℕ
escaped_byte byte = 92 ∷ 120 ∷ digit_glyph true (byte / 16) ∷ digit_glyph true (byte % 16) ∷ []

abbrev pub escaped : List ℕ → List ℕ
escaped bytes = flat_map escaped_byte bytes

abbrev pub has_columns : Option ℕ → Bool
has_columns None = false
has_columns (Some width) = nat_lt 0 width

-- whether a character is printed: it takes a column at least
unfoldable pub is_printed : ℕ → Bool
is_printed character = has_columns (char_width false character)

-- bytes that are this character, or none
abbrev pub shown_piece : Option ℕ → List ℕ → List ℕ
shown_piece None bytes = escaped bytes
shown_piece (Some character) bytes = if is_printed character then bytes else escaped bytes

abbrev pub shown_by : Decoded → List ℕ → List ℕ
shown_by piece bytes = shown_piece piece.char (take piece.size bytes)

-- bytes that break into these parts, each a character or none (Unicode, Table 3-7)
unfoldable pub shown_pieces : List Decoded → List ℕ → List ℕ
shown_pieces [] bytes = []
shown_pieces (piece ∷ more) bytes = shown_by piece bytes ++ shown_pieces more (drop piece.size bytes)

unfoldable pub shown : List ℕ → List ℕ
shown bytes = shown_pieces (pieces bytes) bytes

-- the first of these parts, and how many bytes it has
unfoldable pub shown_first : List ℕ → List ℕ
shown_first bytes = shown_by (decoded bytes) bytes

unfoldable pub first_size : List ℕ → ℕ
first_size bytes = (decoded bytes).size
