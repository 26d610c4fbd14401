-- The text so far, and that of the rest, are all; and a half stands alone in the rest where one does in all.
use Rattle.std.proofs.Common.{◌≡◌, ◌++◌, length, map}
use Rattle.std.specs.Prelude.{is_some, not, unwrap_or}
use Rattle.std.specs.List.{list_any}
use Rattle.std.specs.Str.{encode_utf8_all}
use Rattle.std.specs.Char.Utf16.{has_unpaired_surrogate, utf16_lossy_chars}
use Rattle.jx_string.specs.CharactersLeft.{characters_left}
use Rattle.jx_string.specs.Texts.{string_units}
use Rattle.jx_line_values.proofs.texts.add_characters.Given as goal

abbrev pub invariant-loop-character : goal.invariant-loop-character
invariant-loop-character l = record {
  text : l.text.items ++ encode_utf8_all (map (λ o. unwrap_or o 0xFFFD) (characters_left l.characters)) ≡ encode_utf8_all (utf16_lossy_chars (string_units l.string));
  halves : list_any (λ o. not (is_some o)) (characters_left l.characters) ≡ has_unpaired_surrogate (string_units l.string);
}

abbrev pub decreases-loop-character : goal.decreases-loop-character
decreases-loop-character l = length (characters_left l.characters)
