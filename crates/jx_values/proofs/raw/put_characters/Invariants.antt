-- The characters so far are put, and the rest is to come.
use Rattle.std.proofs.Common.{◌≡◌, ◌≤◌, ◌++◌, false, length}
use Rattle.std.specs.Prelude.{vec_capacity}
use Rattle.std.specs.Char.Utf16.{utf16_chars}
use Rattle.jx_words.proofs.PutSteps.{IsPutUpTo}
use Rattle.jx_string.specs.CharactersLeft.{characters_left}
use Rattle.jx_string.specs.Texts.{string_units}
use Rattle.jx_values.specs.inside.Characters.{spelt_characters}
use Rattle.jx_values.proofs.raw.put_characters.Given as goal

abbrev pub invariant-loop-character : goal.invariant-loop-character
invariant-loop-character g l = record {
  put : IsPutUpTo (g.W.Sink.contents l.initial.writer) (g.W.Sink.contents l.writer) l.out.items (spelt_characters (characters_left l.characters)) (l.initial.out.items ++ spelt_characters (utf16_chars (string_units l.string)));
  going : g.W.Sink.has_failed l.writer ≡ false;
  large : 4096 ≤ vec_capacity l.out;
}

abbrev pub decreases-loop-character : goal.decreases-loop-character
decreases-loop-character g l = length (characters_left l.characters)
