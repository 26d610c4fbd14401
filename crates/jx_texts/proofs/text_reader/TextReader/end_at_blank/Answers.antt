use Rattle.std.proofs.Common.{ap, ◌∙◌, arith}
use Rattle.jx_run.specs.Reader.{ReaderValue}
use Rattle.jx_texts.specs.Reading.{TextReaderValue}
use Rattle.jx_texts.proofs.Told.{bare_ends_blank}
use Rattle.jx_texts.proofs.text_reader.TextReader.end_at_blank.Goals as goal

pub returns-clause-told : goal.returns-clause-told
returns-clause-told c = λ limit at bytes told h.
    let same = ap (λ (v : TextReaderValue). v.reader) c.self.view_is in
    let stage = ap (λ (v : TextReaderValue). v.stage) c.self.view_is in
    let there = ap (λ (v : TextReaderValue). v.reader.start) c.self.view_is in
    let none = ap (λ (v : TextReaderValue). v.reader.count) c.self.view_is in
    let zero = c.end_text-text.ensures.reads.count in
    let begun = c.end_text-text.ensures.start in
    let end = c.end-end.ensures in
    let start = c.reset.ensures.start in
    bare_ends_blank c.reader_and_grammar.ensures.verdict limit at bytes c.args.border told c.args.self.now h c.requires.stage c.requires.border _ c.end_text-text.result
    (λ xs read. c.requires.accepted limit xs h.by read) c.end_text-text.ensures.text c.requires.blank (stage ∙ c.end_text-text.ensures.stage)
    (c.reset.ensures.settings ∙ ap (λ (r : ReaderValue). r.settings) same ∙ c.end_text-text.ensures.settings) (omega (arith, there, none, zero, begun, end, start)) c.reset.ensures.reads
