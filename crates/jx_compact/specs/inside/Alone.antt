-- Bytes that are one token, without an escape.
use Rattle.std.specs.Prelude.{ℕ, ◌==◌, Bool, false, if◌then◌else◌, not}
use Rattle.jx_compact.specs.Compact.{is_no_blank}

-- outside of strings: neither white space nor a quotation mark
abbrev pub is_bare : ℕ → Bool
is_bare byte = if byte == 0x22 then false else is_no_blank byte

-- in a string: neither a quotation mark nor a backslash
abbrev pub is_inner : ℕ → Bool
is_inner byte = if byte == 0x22 then false else not (byte == 0x5c)
