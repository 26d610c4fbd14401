-- No half stands alone so far, and one does in the rest where one does in all.
use Rattle.std.proofs.Common.{◌≡◌, length}
use Rattle.std.specs.Prelude.{is_some, not}
use Rattle.std.specs.List.{list_any}
use Rattle.std.specs.Char.Utf16.{has_unpaired_surrogate}
use Rattle.jx_string.specs.CharactersLeft.{characters_left}
use Rattle.jx_string.specs.Texts.{string_units}
use Rattle.jx_string.proofs.texts.has_text.Given as goal

abbrev pub invariant-loop-character : goal.invariant-loop-character
invariant-loop-character l = list_any (λ o. not (is_some o)) (characters_left l.characters) ≡ has_unpaired_surrogate (string_units l.string)

abbrev pub decreases-loop-character : goal.decreases-loop-character
decreases-loop-character l = length (characters_left l.characters)
