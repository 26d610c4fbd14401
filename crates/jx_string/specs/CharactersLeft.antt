-- The characters of a string that are still to come.
use Rattle.std.specs.Prelude.{ℕ, List, Option}
use Rattle.std.specs.Char.Utf16.{utf16_chars}
use Rattle.jx_string.specs.declared.characters.Characters.{Characters}
use Rattle.jx_string.specs.inside.UnitsLeft.{units_left}

-- with none for each half of a surrogate pair without the other half
abbrev pub characters_left : Characters → List (Option ℕ)
characters_left characters = utf16_chars (units_left characters.units)
