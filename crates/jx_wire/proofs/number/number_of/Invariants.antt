use Rattle.std.proofs.Common.{◌≡◌, min, take, true}
use Rattle.std.specs.Char.{is_ascii_digit}
use Rattle.std.specs.List.{list_all}
use Rattle.std.specs.Str.Parse.{digits_value}
use Rattle.jx_wire.proofs.number.number_of.Given as goal

-- the bytes so far are digits, and spell the number
abbrev pub invariant-loop-digit : goal.invariant-loop-digit
invariant-loop-digit l =
    (l.number ≡ min (digits_value 10 (take l.digit-index l.digits)) 4294967296) × (list_all is_ascii_digit (take l.digit-index l.digits) ≡ true)
