use Rattle.std.proofs.Common.{◌+◌, ℕ, List, length, drop, sym, subst, ap, arith}
use Rattle.std.specs.Prelude.{◌==◌}
use Rattle.std.specs.Str.{chars}
use Rattle.std.proofs.lemmas.Iterator.{YieldsList-from_chars}
use Rattle.std.proofs.lemmas.Iterator.Consumers.{YieldsList-turn, YieldsList-end}
use Rattle.std.proofs.lemmas.List.{drop_all, length_push}
use Rattle.jx_words.specs.Showing.{shown, shown_character, shown_from}
use Rattle.jx_words.proofs.Shown.{IsWrittenUpTo, shown_more, written_all, written_more}
use Rattle.jx_words.proofs.showing.write_shown.Goals as goal

pub loop-character-preserved : goal.loop-character-preserved
loop-character-preserved g c =
    let l = c.loop-character in
    let cs : List ℕ = chars c.args.name.now in
    let code : ℕ = c.in-Some.character in
    let n : ℕ = length l.yielded in
    let old = g.E.Sink.contents c.args.sink.now in
    let newer = g.E.Sink.contents c.write_character.new.sink in
    let turn = YieldsList-turn (YieldsList-from_chars c.args.name.now c.utf8.name cc) l.yielded _ l.yielded_by _ _ code c.in-Some.is c.next.ensures.steps in
    let more : IsWrittenUpTo old newer (shown_from (code == 58) (drop (n + 1) cs)) (shown c.args.name.now) =
    written_more old (g.E.Sink.contents l.sink) newer (shown_from l.is_behind_colon (drop n cs)) (shown_character l.is_behind_colon code) (shown_from (code == 58) (drop (n + 1) cs))
    (shown c.args.name.now) l.invariant.written (shown_more l.is_behind_colon cs n code turn) c.in_ok-write_character.ensures.ok in
    record {
      going = c.in_ok-write_character.ensures.failed;
      written = subst (λ (k : ℕ). IsWrittenUpTo old newer (shown_from (code == 58) (drop k cs)) (shown c.args.name.now)) (sym (length_push l.yielded code)) more;
    }

pub returns-clause-ok : goal.returns-clause-ok
returns-clause-ok g c =
    let l = c.loop-character in
    let cs : List ℕ = chars c.args.name.now in
    let end = YieldsList-end (YieldsList-from_chars c.args.name.now c.utf8.name cc) l.yielded _ l.yielded_by _ _ c.in-None.is c.next.ensures.steps in
    written_all (g.E.Sink.contents c.args.sink.now) (g.E.Sink.contents l.sink) (shown_from l.is_behind_colon (drop (length l.yielded) cs)) (shown c.args.name.now) l.invariant.written
    (ap (shown_from l.is_behind_colon) (drop_all (length l.yielded) cs (omega (arith, end.1))))
