-- The value of a string (RFC 8259, section 7): the characters whose UTF-16 code units are its own, and their UTF-8.
use Rattle.std.specs.Prelude.{ℕ, List, Option, Some, None, if◌then◌else◌}
use Rattle.std.specs.Char.Utf16.{has_unpaired_surrogate, utf16_lossy_chars}
use Rattle.std.specs.Str.{encode_utf8_all}
use Rattle.jx_index.specs.declared.units.Spelling.TheVariants.{InText}
use Rattle.jx_index.specs.Units.{between_marks, chars_units}

-- the UTF-16 code units of a string, by its bytes with the quotation marks
abbrev pub string_units : List ℕ → List ℕ
string_units string = chars_units InText 0 (between_marks string)

-- the UTF-8 of the characters that code units encode; none where one is half of a surrogate pair without the other half
abbrev pub utf8_of : List ℕ → Option (List ℕ)
utf8_of units = if has_unpaired_surrogate units then None else Some (encode_utf8_all (utf16_lossy_chars units))

-- the same for the units of a string
abbrev pub text_of : List ℕ → Option (List ℕ)
text_of string = utf8_of (string_units string)
