use Rattle.std.proofs.Common.{rules, ◌+◌, List, [], ℕ, drop, take, subst, sym}
use Rattle.jx_files.specs.declared.status.Status.{Status}
use Rattle.std.proofs.KnownBytes.{Appends-nil}
use Rattle.jx_files.specs.Files.{no_word, ways_of, ReportsEach, ReportsFirst}
use Rattle.jx_files.proofs.Words.{texts, texts_all, texts_apart, texts_more, word_in_part, word_more}
use Rattle.jx_files.proofs.reports.report_on_each.Goals as goal

pub returns-in_err-next-clause-err : goal.returns-in_err-next-clause-err
returns-in_err-next-clause-err g c =
    let ways = ways_of (g.O.Opener.opens c.args.opener.now) (g.O.Opener.why c.args.opener.now) (g.O.Opener.shares c.args.opener.now) (g.O.Opener.may_fail c.args.opener.now) g.S.Source.remaining g.S.Source.has_failed in
    let words = c.args.words.now in
    let l = c.loop-number in
    let there = c.word_at-word.ensures in
    let first : ReportsFirst ways c.args.command.now (texts words) (g.W.Sink.contents c.args.writer.now) (g.W.Sink.contents c.report_on_one.new.writer) =
    word_in_part ways c.args.command.now (texts (take l.number words)) c.word_at-word.result.now _ _ _ _ _ _ _ l.invariant.each c.in_err-next.ensures.err
    (texts words) (texts (drop (l.number + 1) words)) (texts_apart words l.number c.word_at-word.result there c.loop-number-test.true) in
    search (rules, first)

pub loop-number-init : goal.loop-number-init
loop-number-init g c = record {
  going = c.requires.writer;
  each = record { output = []; tells = []; reported = no_word; wrote = Appends-nil _; says = λ _. Appends-nil _ };
}

pub loop-number-preserved : goal.loop-number-preserved
loop-number-preserved g c =
    let ways = ways_of (g.O.Opener.opens c.args.opener.now) (g.O.Opener.why c.args.opener.now) (g.O.Opener.shares c.args.opener.now) (g.O.Opener.may_fail c.args.opener.now) g.S.Source.remaining g.S.Source.has_failed in
    let words = c.args.words.now in
    let l = c.loop-number in
    let there = c.word_at-word.ensures in
    record {
      going = c.in_ok-next.ensures.failed;
      each = subst (λ (s : Status). ReportsEach ways c.args.command.now (texts (take (l.number + 1) words)) (g.W.Sink.contents c.args.writer.now) (g.W.Sink.contents c.report_on_one.new.writer)
          (g.E.Sink.has_failed c.report_on_one.new.errors) (g.E.Sink.contents c.args.errors.now) (g.E.Sink.contents c.report_on_one.new.errors) s) (sym c.greatest-status.ensures)
          (word_more ways c.args.command.now (texts (take l.number words)) c.word_at-word.result.now _ _ _ _ _ _ _ _ _ _ l.invariant.each c.in_ok-next.ensures.ok c.in_ok-next.ensures.lost
          (texts (take (l.number + 1) words)) (texts_more words l.number c.word_at-word.result there c.loop-number-test.true));
    }

pub returns-clause-ok : goal.returns-clause-ok
returns-clause-ok g c =
    let ways = ways_of (g.O.Opener.opens c.args.opener.now) (g.O.Opener.why c.args.opener.now) (g.O.Opener.shares c.args.opener.now) (g.O.Opener.may_fail c.args.opener.now) g.S.Source.remaining g.S.Source.has_failed in
    let words = c.args.words.now in
    let l = c.loop-number in
    subst (λ (ws : List (List ℕ)). ReportsEach ways c.args.command.now ws (g.W.Sink.contents c.args.writer.now) (g.W.Sink.contents l.writer) (g.E.Sink.has_failed l.errors) (g.E.Sink.contents c.args.errors.now) (g.E.Sink.contents l.errors) l.status)
    (texts_all words l.number c.loop-number-test.false) l.invariant.each
