-- The UTF-16 units of a string, read off its bytes a character at a time.
use Rattle.std.specs.Prelude.{ℕ, zero, suc, ◌+◌, ◌-◌, ◌*◌, ◌==◌, nat_lt, if◌then◌else◌, List, [], ◌∷◌, ◌++◌, length, take, drop, slice_index, slice_range}
use Rattle.std.specs.Char.Escape.{encode_utf16}
use Rattle.jx_summary.specs.declared.span.Span.{Span}
use Rattle.jx_index.specs.declared.units.Spelling.{Spelling}
use Rattle.jx_index.specs.declared.units.Spelling.TheVariants.{InText, InToken}
use Rattle.jx_lex.specs.Character.{tail_bits, two_tails, three_tails}
use Rattle.jx_lex.specs.Token.{escaped_unit, hex_unit}

-- the number of the character that begins with a byte, and how many bytes follow in it
abbrev pub char_at : ℕ → List ℕ → ℕ
char_at a bs =
    if nat_lt a 0x80 then a else
    if nat_lt a 0xe0 then (a - 0xc0) * 64 + tail_bits (slice_index bs 0) else
    if nat_lt a 0xf0 then (a - 0xe0) * 4096 + two_tails (slice_index bs 0) (slice_index bs 1) else
    (a - 0xf0) * 262144 + three_tails (slice_index bs 0) (slice_index bs 1) (slice_index bs 2)

abbrev pub tails_of : ℕ → ℕ
tails_of a =
    if nat_lt a 0x80 then 0 else
    if nat_lt a 0xe0 then 1 else
    if nat_lt a 0xf0 then 2 else 3

-- the units of a character of a string, and how many bytes follow its first
abbrev pub escape_units : List ℕ → List ℕ
escape_units bs =
    if slice_index bs 0 == 0x75 then hex_unit (slice_index bs 1) (slice_index bs 2) (slice_index bs 3) (slice_index bs 4) ∷ [] else
    escaped_unit (slice_index bs 0) ∷ []

abbrev pub escape_more : List ℕ → ℕ
escape_more bs = if slice_index bs 0 == 0x75 then 5 else 1

-- in a pointer's token ~0 stands for ~ and ~1 for a slash
abbrev pub escaped_byte : ℕ → ℕ
escaped_byte digit = if digit == 0x30 then 0x7e else 0x2f

abbrev pub char_units : Spelling → ℕ → List ℕ → List ℕ
char_units InText a bs = if a == 0x5c then escape_units bs else encode_utf16 (char_at a bs)
char_units InToken a bs = if a == 0x7e then escaped_byte (slice_index bs 0) ∷ [] else encode_utf16 (char_at a bs)

abbrev pub char_more : Spelling → ℕ → List ℕ → ℕ
char_more InText a bs = if a == 0x5c then escape_more bs else tails_of a
char_more InToken a bs = if a == 0x7e then 1 else tails_of a

-- the units that a list of bytes encodes, where some bytes at the front are skipped
unfoldable pub chars_units : Spelling → ℕ → List ℕ → List ℕ
chars_units spelling skip [] = []
chars_units spelling zero (a ∷ bs) = char_units spelling a bs ++ chars_units spelling (char_more spelling a bs) bs
chars_units spelling (suc skip) (a ∷ bs) = chars_units spelling skip bs

-- without the quotation marks
abbrev pub between_marks : List ℕ → List ℕ
between_marks w = take (length w - 2) (drop 1 w)

-- the units of the string at a span
unfoldable pub units_at : List ℕ → Span → List ℕ
units_at text span = chars_units InText 0 (between_marks (slice_range text span.start span.end))
