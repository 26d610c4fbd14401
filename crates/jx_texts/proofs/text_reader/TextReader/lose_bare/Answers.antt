use Rattle.std.proofs.Common.{sym, subst, ap, refl, ◌∙◌}
use Rattle.jx_run.specs.Reader.{HasRead}
use Rattle.jx_texts.specs.Reading.{TextReaderValue}
use Rattle.jx_texts.proofs.Told.{bare_lost}
use Rattle.jx_texts.proofs.text_reader.TextReader.lose_bare.Goals as goal

pub returns-clause-told : goal.returns-clause-told
returns-clause-told c = λ limit at bytes told h.
    bare_lost c.reader_and_grammar.ensures.verdict limit at bytes c.args.border told c.args.self.now h c.requires.stage c.requires.border _ c.refused.result
    (λ xs read. c.requires.refused limit xs h.by read) refl
    (c.feed.ensures.settings ∙ ap (λ (v : TextReaderValue). v.reader.settings) c.self.view_is)
    (c.feed.ensures.start ∙ ap (λ (v : TextReaderValue). v.reader.start) c.self.view_is)
    (λ xs read. c.in_ok-feed.ensures.reads xs (subst (λ (v : TextReaderValue). HasRead xs v.reader) (sym c.self.view_is) read))
    (λ xs read. c.refused.ensures.listed limit xs (c.feed.ensures.settings ∙ ap (λ (v : TextReaderValue). v.reader.settings) c.self.view_is ∙ h.by) read)
