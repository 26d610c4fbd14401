use Rattle.std.proofs.Common.{◌≡◌, ℕ, List, ◌++◌, arith, rules}
use Rattle.std.specs.Prelude.{Option}
use Rattle.std.specs.Char.{encode_utf8}
use Rattle.std.specs.Char.Utf16.{utf16_chars}
use Rattle.jx_ends.specs.Ends.{AppendsBeginning}
use Rattle.jx_string.specs.CharactersLeft.{characters_left}
use Rattle.jx_string.specs.Texts.{string_units}
use Rattle.jx_values.specs.inside.Characters.{spelt_characters}
use Rattle.jx_values.proofs.Lines.{fails, one_more}
use Rattle.jx_values.proofs.TextSteps.{next_spelt}
use Rattle.jx_values.proofs.raw.put_characters.Goals as goal

pub loop-character-preserved : goal.loop-character-preserved
loop-character-preserved g c =
    let contents = g.W.Sink.contents in
    let l = c.loop-character in
    let all : List (Option ℕ) = characters_left l.characters in
    let later : List (Option ℕ) = characters_left c.next_character.new.self in
    let more : List ℕ = encode_utf8 c.unwrap_or.result in
    let whole : List ℕ = c.args.out.now.items ++ spelt_characters (utf16_chars (string_units c.args.string.now)) in
    let step : more ++ spelt_characters later ≡ spelt_characters all =
    next_spelt all later c.in-Some.character c.unwrap_or.result c.in-Some.ensures c.unwrap_or.ensures in
    record {
      put =
          one_more (contents c.args.writer.now) (contents l.writer) l.out.items (spelt_characters all) whole l.invariant.put
          more (spelt_characters later) step (contents c.put_character.new.writer) c.put_character.new.out.items c.in_ok-put_character.ensures.ok;
      going = c.in_ok-put_character.ensures.failed;
      large = omega (arith, c.in_ok-put_character.ensures.room, l.invariant.large);
    }

pub returns-in_err-put_character-clause-err : goal.returns-in_err-put_character-clause-err
returns-in_err-put_character-clause-err g c =
    let contents = g.W.Sink.contents in
    let l = c.loop-character in
    let all : List (Option ℕ) = characters_left l.characters in
    let later : List (Option ℕ) = characters_left c.next_character.new.self in
    let more : List ℕ = encode_utf8 c.unwrap_or.result in
    let whole : List ℕ = c.args.out.now.items ++ spelt_characters (utf16_chars (string_units c.args.string.now)) in
    let step : more ++ spelt_characters later ≡ spelt_characters all =
    next_spelt all later c.in-Some.character c.unwrap_or.result c.in-Some.ensures c.unwrap_or.ensures in
    let beginning : AppendsBeginning (contents c.args.writer.now) (contents c.put_character.new.writer) whole =
    fails (contents c.args.writer.now) (contents l.writer) l.out.items (spelt_characters all) whole l.invariant.put
    more (spelt_characters later) step (contents c.put_character.new.writer) c.in_err-put_character.ensures.err in
    search (rules, beginning)
