-- The characters so far are appended, and the rest is to come.
use Rattle.std.proofs.Common.{◌≡◌, ◌++◌, length}
use Rattle.std.specs.Char.Utf16.{utf16_chars}
use Rattle.jx_string.specs.CharactersLeft.{characters_left}
use Rattle.jx_string.specs.Texts.{string_units}
use Rattle.jx_values.specs.inside.Characters.{spelt_characters}
use Rattle.jx_values.proofs.showing.push_characters.Given as goal

abbrev pub invariant-loop-character : goal.invariant-loop-character
invariant-loop-character l =
    l.out.items ++ spelt_characters (characters_left l.characters) ≡ l.initial.out.items ++ spelt_characters (utf16_chars (string_units l.string))

abbrev pub decreases-loop-character : goal.decreases-loop-character
decreases-loop-character l = length (characters_left l.characters)
