use Rattle.std.proofs.Common.{◌≡◌, ◌+◌, ◌≤◌, ℕ, [], false, ap, refl, sym, subst, ◌∙◌, arith}
use Rattle.jx_run.specs.Elements.{part}
use Rattle.jx_ndjson.specs.Answers.{mark_at}
use Rattle.jx_ndjson.specs.Reading.{IsOpen, LineReaderValue}
use Rattle.jx_ndjson.proofs.Steps.{same_open}
use Rattle.jx_ndjson.proofs.Whole.{passes}
use Rattle.jx_ndjson.proofs.line_reader.LineReader.pass.Goals as goal

pub returns-clause-told : goal.returns-clause-told
returns-clause-told c = λ settings input bytes told answers h k.
    let old = c.args.self.now in
    let whole = c.args.lines.now in
    let j = c.self-2.inside in
    let m : LineReaderValue = record { reader = j.reader; is_blank = j.is_blank; open_ended = j.open_ended; ended = j.ended; in_front = j.in_front } in
    let there = ap (λ (v : LineReaderValue). v.reader.start) c.self.view_is in
    let from = c.start.ensures in
    let len = c.len.ensures in
    let next : c.start.result + c.len.result ≡ old.reader.start + whole.len = omega (arith, there, from, len) in
    let few : old.ended ≤ old.reader.start = subst (λ (v : LineReaderValue). v.ended ≤ v.reader.start) c.self.view_is c.self.invariant in
    let front : j.in_front ≡ false = ap (λ (v : LineReaderValue). v.in_front) c.self-2.view_is ∙ c.begin.ensures.in_front ∙ c.requires.in_front in
    let before = ap (λ (v : LineReaderValue). v.ended) c.self-2.view_is in
    let same = c.begin.ensures.ended in
    let more = c.count.ensures.count in
    let ended : j.ended + c.count.result ≡ old.ended + whole.count = omega (arith, before, same, more) in
    passes c.reader_and_grammar.ensures.verdict settings input bytes told answers whole old _ c.requires.in_front front c.requires.between few c.requires.fits h k
    (λ p o none.
    same_open settings (part (old.reader.start + whole.len) []) m _ refl refl refl
    (subst (λ (v : LineReaderValue). IsOpen settings (part (old.reader.start + whole.len) []) v) (sym c.self-2.view_is)
    (subst (λ (k : ℕ). IsOpen settings (part k []) c.begin.new.self) next (c.begin.ensures.goes_on settings p o (ap (mark_at settings.mark) next ∙ none)))))
    ended
