use Rattle.std.proofs.Common.{sym, subst, ap}
use Rattle.jx_run.specs.Reader.{ReaderValue}
use Rattle.jx_texts.specs.Reading.{TextReaderValue}
use Rattle.jx_texts.specs.inside.Steps.{IsBegun}
use Rattle.jx_texts.proofs.Told.{begun_feeds}
use Rattle.jx_texts.proofs.text_reader.TextReader.begin_text.Goals as goal

pub returns-clause-told : goal.returns-clause-told
returns-clause-told c = λ limit at bytes told h.
    let same = ap (λ (v : TextReaderValue). v.reader) c.self.view_is in
    let b : IsBegun limit at bytes told c.args.byte c.self.inside.reader = subst (λ (r : ReaderValue). IsBegun limit at bytes told c.args.byte r) (sym same) h in
    c.judge.ensures.told limit at bytes told
    (begun_feeds c.reader_and_grammar.ensures.verdict limit at bytes told c.args.byte c.self.inside.reader c.feed.new.self _ b c.feed.ensures.settings c.feed.ensures.start c.in_ok-feed.ensures.reads c.stage_of-self-inside.ensures)
