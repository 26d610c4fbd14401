use Rattle.std.proofs.Common.{◌≡◌, ◌++◌, ap}
use Rattle.std.specs.Prelude.{codes}
use Rattle.std.specs.String.{string_bytes}
use Rattle.jx_sentence.specs.Words.{place_words, string_open}
use Rattle.jx_sentence.proofs.Listed.{follows}
use Rattle.jx_sentence.proofs.sentence.push_string_open.Goals as goal

pub returns-in_ok-push_str-in-Some : goal.returns-in_ok-push_str-in-Some
unfolding string_open
returns-in_ok-push_str-in-Some c =
    follows c.push_place.result (string_bytes c.push_place.new.out) (string_bytes c.push_str-in-Some.new.self) (string_bytes c.args.out.now)
    (codes "the text ends inside a string that began") (place_words c.in-Some.place) (string_open c.args.began) c.push_place.ensures c.in_ok-push_str-in-Some.ensures.bytes
    (ap string_open c.in-Some.is)
