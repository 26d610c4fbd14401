-- Where a byte stands in a text, for people: its line, and its column there.
use Rattle.std.specs.Prelude.{ℕ, ◌+◌, ◌==◌, List, Bool, fold, take, nat_le, ◌&&◌, if◌then◌else◌}
use Rattle.jx_sentence.specs.declared.place.Place.{Place}

-- where a text begins
abbrev pub first_place : Place
first_place = record { line = 1; column = 1 }

-- a byte that goes on with a character that an earlier one began (RFC 3629, section 3)
abbrev pub is_tail : ℕ → Bool
is_tail byte = nat_le 0x80 byte && nat_le byte 0xbf

-- the place after a byte: a line feed ends its line, and any other byte that begins a character has a column of its own
abbrev pub place_past : Place → ℕ → Place
place_past p byte =
    if byte == 10 then record { line = p.line + 1; column = 1 }
    else (if is_tail byte then p else record { line = p.line; column = p.column + 1 })

-- the place after these bytes
abbrev pub place_behind : Place → List ℕ → Place
place_behind p bytes = fold place_past p bytes

-- the place of the byte at an offset, or of the end
abbrev pub place_at : List ℕ → ℕ → Place
place_at text at = place_behind first_place (take at text)
