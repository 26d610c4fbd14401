-- Bytes over which the lexical machine keeps its state, or returns to it, with no event.
use Rattle.std.specs.Prelude.{◌≡◌, ℕ, Bool, not, ◌&&◌, ◌||◌, ◌==◌, nat_le, List, [], ◌∷◌}
use Rattle.jx_lex.specs.declared.alphabet.state.LexState.{LexState}
use Rattle.jx_lex.specs.Moves.{move, go}

-- each of these bytes keeps the state and has no event
abbrev pub AllKeep : LexState → List ℕ → Type 0
AllKeep s [] = Unit {0}
AllKeep s (b ∷ bs) = (move s b ≡ go s) × AllKeep s bs

-- these bytes lead from a state to another one, and none of them has an event
abbrev pub Leads : LexState → List ℕ → LexState → Type 0
Leads s [] t = s ≡ t
Leads s (b ∷ bs) t = (next : LexState) × (move s b ≡ go next) × Leads next bs t

-- ordinary ASCII in a string: 20 to 7F, but for the quotation mark and the backslash
abbrev pub is_plain : ℕ → Bool
is_plain byte = nat_le 0x20 byte && nat_le byte 0x7f && not (byte == 0x22) && not (byte == 0x5c)

-- a byte of unescaped characters in a string: no quotation mark, no backslash, no control character (RFC 8259, section 7)
abbrev pub is_unescaped : ℕ → Bool
is_unescaped byte = nat_le 0x20 byte && not (byte == 0x22) && not (byte == 0x5c)

abbrev pub is_digit : ℕ → Bool
is_digit byte = nat_le 0x30 byte && nat_le byte 0x39

abbrev pub is_blank : ℕ → Bool
is_blank byte = byte == 0x20 || byte == 0x09 || byte == 0x0a || byte == 0x0d

-- a tail byte of UTF-8
abbrev pub is_tail : ℕ → Bool
is_tail byte = nat_le 0x80 byte && nat_le byte 0xbf

-- these bytes are a well-formed character of UTF-8 above 7F (RFC 3629, section 4), by their number
abbrev pub is_two : ℕ → ℕ → Bool
is_two a b = nat_le 0xc2 a && nat_le a 0xdf && is_tail b

abbrev pub is_three : ℕ → ℕ → ℕ → Bool
is_three a b c = nat_le 0xe0 a && nat_le a 0xef && is_tail b && is_tail c && (not (a == 0xe0) || nat_le 0xa0 b) && (not (a == 0xed) || nat_le b 0x9f)

abbrev pub is_four : ℕ → ℕ → ℕ → ℕ → Bool
is_four a b c d = nat_le 0xf0 a && nat_le a 0xf4 && is_tail b && is_tail c && is_tail d && (not (a == 0xf0) || nat_le 0x90 b) && (not (a == 0xf4) || nat_le b 0x8f)

-- the bytes that may stand after a backslash, other than u (RFC 8259, section 7)
abbrev pub is_escaped : ℕ → Bool
is_escaped byte = byte == 0x22 || byte == 0x5c || byte == 0x2f || byte == 0x62 || byte == 0x66 || byte == 0x6e || byte == 0x72 || byte == 0x74

-- a hexadecimal digit
abbrev pub is_hex : ℕ → Bool
is_hex byte = (nat_le 0x30 byte && nat_le byte 0x39) || (nat_le 0x41 byte && nat_le byte 0x46) || (nat_le 0x61 byte && nat_le byte 0x66)

-- these bytes are an escape, of one letter or of four hexadecimal digits
abbrev pub is_escape : ℕ → ℕ → Bool
is_escape a b = a == 0x5c && is_escaped b

abbrev pub is_unit : ℕ → ℕ → ℕ → ℕ → ℕ → ℕ → Bool
is_unit a b c d e f = a == 0x5c && b == 0x75 && is_hex c && is_hex d && is_hex e && is_hex f
