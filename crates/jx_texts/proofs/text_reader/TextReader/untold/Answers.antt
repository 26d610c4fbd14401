use Rattle.std.proofs.Common.{sym, ap, ◌∙◌}
use Rattle.jx_run.specs.Reader.{is_fault}
use Rattle.jx_texts.specs.Reading.{TextReaderValue}
use Rattle.jx_texts.proofs.Told.{ends_open, ends_told}
use Rattle.jx_texts.proofs.text_reader.TextReader.untold.Goals as goal

pub returns-then-is_done : goal.returns-then-is_done
returns-then-is_done c = λ limit at bytes told h.
    let same = ap (λ (v : TextReaderValue). is_fault v.reader.outcome) c.self.view_is in
    ends_told c.reader_and_grammar.ensures.verdict limit at bytes told c.args.self.now h c.requires (sym same ∙ sym c.is_done.ensures ∙ c.if-is_done.true)

pub returns-else-is_done : goal.returns-else-is_done
returns-else-is_done c = λ limit at bytes told h.
    let same = ap (λ (v : TextReaderValue). is_fault v.reader.outcome) c.self.view_is in
    ends_open c.reader_and_grammar.ensures.verdict limit at bytes told c.args.self.now h c.requires (sym same ∙ sym c.is_done.ensures ∙ c.if-is_done.false)
    c.text_now.result (λ xs read. c.text_now.ensures limit xs h.by read)
