use Rattle.std.proofs.Common.{sym, ap, ◌∙◌}
use Rattle.jx_texts.specs.Reading.{TextReaderValue}
use Rattle.jx_texts.proofs.Told.{ends_between}
use Rattle.jx_texts.proofs.text_reader.TextReader.last_text.Goals as goal

pub returns-in-Between : goal.returns-in-Between
returns-in-Between c = λ limit at bytes told h.
    ends_between c.reader_and_grammar.ensures.verdict limit at bytes told c.args.self.now h (sym (ap (λ (v : TextReaderValue). v.stage) c.self.view_is) ∙ c.in-Between.is)
