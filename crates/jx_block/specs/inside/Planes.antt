-- Sets of bytes that stand outside of strings.
use Rattle.std.specs.Prelude.{ℕ, Bool, ◌||◌, ◌==◌}

-- the structural characters (RFC 8259, section 2)
abbrev pub is_structural : ℕ → Bool
is_structural byte = byte == 0x5b || byte == 0x5d || byte == 0x7b || byte == 0x7d || byte == 0x3a || byte == 0x2c

-- a byte that mostly follows a number or a literal: a comma, a closing bracket, a space or a line's end
abbrev pub is_stop : ℕ → Bool
is_stop byte = byte == 0x2c || byte == 0x5d || byte == 0x7d || byte == 0x20 || byte == 0x0a || byte == 0x0d

-- a space or a line's end
abbrev pub is_space : ℕ → Bool
is_space byte = byte == 0x20 || byte == 0x0a || byte == 0x0d

-- the letter of an exponent
abbrev pub is_exponent : ℕ → Bool
is_exponent byte = byte == 0x65 || byte == 0x45

-- the first byte of a literal
abbrev pub is_literal : ℕ → Bool
is_literal byte = byte == 0x74 || byte == 0x66 || byte == 0x6e
