-- Numbers in decimal digits.
use Rattle.std.specs.Prelude.{ℕ, ◌&&◌, min, nat_lt, if◌then◌else◌, List, length, Option, Some, None}
use Rattle.std.specs.Char.{is_ascii_digit}
use Rattle.std.specs.List.{list_all}
use Rattle.std.specs.Str.Parse.{digits_value}

-- the number of decimal digits, as far as it is at most 2 to the 32; none where there is no digit, or another byte
abbrev pub number_of : List ℕ → Option ℕ
number_of digits = if nat_lt 0 (length digits) && list_all is_ascii_digit digits then Some (min (digits_value 10 digits) 4294967296) else None
