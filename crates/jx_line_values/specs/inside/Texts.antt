-- Bytes of a string that are characters of its text.
use Rattle.std.specs.Prelude.{ℕ, ◌==◌, Bool, false, if◌then◌else◌, nat_lt}

-- ASCII, and no backslash
abbrev pub is_itself : ℕ → Bool
is_itself byte = if byte == 0x5c then false else nat_lt byte 0x80
