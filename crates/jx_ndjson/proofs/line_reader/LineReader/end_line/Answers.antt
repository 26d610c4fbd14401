use Rattle.std.proofs.Common.{◌≡◌, ℕ, suc, ◌+◌, [], true, sym, subst, ap, refl, arith}
use Rattle.jx_run.specs.Elements.{part}
use Rattle.jx_ndjson.specs.Answers.{IsAnswer}
use Rattle.jx_ndjson.specs.Lines.{line}
use Rattle.jx_ndjson.specs.Reading.{IsOpen, LineReaderValue}
use Rattle.jx_ndjson.proofs.Fronts.{beyond}
use Rattle.jx_ndjson.proofs.Steps.{ends_line, same_open}
use Rattle.jx_ndjson.proofs.line_reader.LineReader.end_line.Goals as goal

pub returns-clause-told : goal.returns-clause-told
returns-clause-told c = λ settings at before told h.
    let i = c.self.inside in
    let j = c.self-2.inside in
    let r : LineReaderValue = record { reader = i.reader; is_blank = i.is_blank; open_ended = i.open_ended; ended = i.ended; in_front = i.in_front } in
    let m : LineReaderValue = record { reader = j.reader; is_blank = j.is_blank; open_ended = j.open_ended; ended = j.ended; in_front = j.in_front } in
    let ended = ap (λ (v : LineReaderValue). v.ended) c.self.view_is in
    let number : i.ended + 1 ≡ suc c.args.self.now.ended = omega (arith, ended) in
    let there = ap (λ (v : LineReaderValue). v.reader.start + v.reader.count) c.self.view_is in
    let end = c.end-end.ensures in
    let next : c.end-end.result + 1 ≡ c.args.self.now.reader.start + c.args.self.now.reader.count + 1 = omega (arith, there, end) in
    ends_line settings at before told _ _ c.judged-line.result h
    (λ p o. subst (λ (k : ℕ). IsAnswer settings (line k p true) c.judged-line.result) number (c.judged-line.ensures.answer settings p o))
    (λ p o.
    same_open settings (part (c.args.self.now.reader.start + c.args.self.now.reader.count + 1) []) m _ refl refl refl
    (subst (λ (v : LineReaderValue). IsOpen settings (part (c.args.self.now.reader.start + c.args.self.now.reader.count + 1) []) v) (sym c.self-2.view_is)
    (subst (λ (k : ℕ). IsOpen settings (part k []) c.begin.new.self) next (c.begin.ensures.goes_on settings p o (beyond settings.mark (c.end-end.result + 1) (omega arith))))))
    number
