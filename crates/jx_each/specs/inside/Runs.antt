-- Sets of bytes of which runs are skipped at once.
use Rattle.std.specs.Prelude.{◌≡◌, ◌==◌, ◌&&◌, ◌||◌, ℕ, Bool, not, nat_le, true, List, [], ◌∷◌}
use Rattle.jx_compact.specs.Compact.{is_no_blank}

-- in a string: it ends no string and begins no escape
abbrev pub is_char : ℕ → Bool
is_char byte = not (byte == 0x22) && not (byte == 0x5c)

abbrev pub is_bracket : ℕ → Bool
is_bracket byte = byte == 0x5b || byte == 0x5d || byte == 0x7b || byte == 0x7d

-- a comma or a colon
abbrev pub is_border : ℕ → Bool
is_border byte = byte == 0x2c || byte == 0x3a

-- up to the space
abbrev pub is_low : ℕ → Bool
is_low byte = nat_le byte 0x20

-- between tokens: no bracket, and no byte up to the quotation mark
abbrev pub is_deep : ℕ → Bool
is_deep byte = nat_le 0x23 byte && not (is_bracket byte)

-- the same, and no comma or colon
abbrev pub is_flat : ℕ → Bool
is_flat byte = is_deep byte && not (byte == 0x2c) && not (byte == 0x3a)

abbrev pub is_blank : ℕ → Bool
is_blank byte = not (is_no_blank byte)

-- each of these bytes is in the set
abbrev pub AreIn : (ℕ → Bool) → List ℕ → Type 0
AreIn p [] = Unit {0}
AreIn p (b ∷ bs) = (p b ≡ true) × AreIn p bs
