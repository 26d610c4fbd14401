use Rattle.std.proofs.Common.{◌≡◌, ◌+◌, suc, false, subst, ap, sym, ◌∙◌, ℕ, arith}
use Rattle.jx_ndjson.specs.Answers.{IsAnswer}
use Rattle.jx_ndjson.specs.Lines.{line}
use Rattle.jx_ndjson.specs.Reading.{LineReaderValue}
use Rattle.jx_ndjson.proofs.Steps.{with_last, without_last}
use Rattle.jx_ndjson.proofs.line_reader.LineReader.last_line.Goals as goal

pub returns-then-start-end-clause-told : goal.returns-then-start-end-clause-told
returns-then-start-end-clause-told c = λ settings input told h.
    let start = c.start.ensures in
    let end = c.end.ensures in
    let same = c.if-start-end.true in
    without_last settings _ _ told _ h.reads (subst (λ (v : LineReaderValue). v.reader.start ≡ v.reader.start + v.reader.count) c.self.view_is (omega (arith, start, end, same)))

pub returns-clause-told : goal.returns-clause-told
returns-clause-told c = λ settings input told h.
    let ended = ap (λ (v : LineReaderValue). v.ended) c.self.view_is in
    let number : c.self.inside.ended + 1 ≡ suc c.args.self.now.ended = omega (arith, ended) in
    with_last settings _ _ told _ c.judged.result h.reads
    (λ e. c.if-start-end.false (c.start.ensures ∙ subst (λ (v : LineReaderValue). v.reader.start ≡ v.reader.start + v.reader.count) (sym c.self.view_is) e ∙ sym c.end.ensures))
    (λ p o. subst (λ (k : ℕ). IsAnswer settings (line k p false) c.judged.result) number (c.judged.ensures.answer settings p o))
