use Rattle.std.proofs.Common.{sym, refl, ◌∙◌, true}
use Rattle.jx_texts.proofs.Told.{judged_end, judged_on}
use Rattle.jx_texts.proofs.text_reader.TextReader.end_closed.Goals as goal

pub returns-then-is_accepted-clause-told : goal.returns-then-is_accepted-clause-told
returns-then-is_accepted-clause-told c = λ limit at bytes told h.
    judged_end c.reader_and_grammar.ensures.verdict limit at bytes told true c.args.self.now h _ c.end_text.result refl
    (sym (c.verdict.ensures limit _ h.by h.read) ∙ c.is_accepted.ensures.yes c.if-is_accepted.true)
    c.end_text.ensures.text c.end_text.ensures.stage c.end_text.ensures.settings c.end_text.ensures.start c.end_text.ensures.reads

pub returns-clause-told : goal.returns-clause-told
returns-clause-told c = λ limit at bytes told h.
    judged_on c.reader_and_grammar.ensures.verdict limit at bytes told true c.args.self.now h _ refl refl c.requires.going
    (λ m v. c.is_accepted.ensures.no c.if-is_accepted.false (c.verdict.ensures limit _ h.by h.read ∙ v))
