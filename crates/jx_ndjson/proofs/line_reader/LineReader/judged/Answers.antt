use Rattle.std.proofs.Common.{sym, subst, ap, ◌∙◌, Bool}
use Rattle.jx_ndjson.specs.Reading.{IsOpen, LineReaderValue}
use Rattle.jx_ndjson.specs.inside.Steps.{told}
use Rattle.jx_ndjson.proofs.Judging.{answer, same_line}
use Rattle.jx_ndjson.proofs.line_reader.LineReader.judged.Goals as goal

pub returns-clause-answer : goal.returns-clause-answer
returns-clause-answer c = λ settings p h.
    let i = c.self.inside in
    let r : LineReaderValue = record { reader = i.reader; is_blank = i.is_blank; open_ended = i.open_ended; ended = i.ended; in_front = i.in_front } in
    let o : IsOpen settings p r = subst (λ (v : LineReaderValue). IsOpen settings p v) (sym c.self.view_is) h in
    answer c.reader_and_grammar.ensures.verdict settings p r c.args.number c.args.is_ended c.verdict.result _ o (c.verdict.ensures.verdict p.bytes)
    (same_line c.args.number _ _ _ _ _ _ c.start.ensures c.end.ensures (c.told.ensures ∙ ap (λ (b : Bool). told i.is_blank b c.verdict.result) c.is_unended-is_open.ensures))
