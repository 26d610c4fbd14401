use Rattle.std.proofs.Common.{List, ℕ, ◌++◌, take, sym, subst, refl}
use Rattle.jx_texts.specs.Reading.{HasTold, TextReaderValue, listed}
use Rattle.jx_texts.specs.inside.Steps.{FeedsOn}
use Rattle.jx_texts.proofs.Told.{feeds}
use Rattle.jx_texts.proofs.text_reader.TextReader.read_some.Goals as goal

pub returns-clause-told : goal.returns-clause-told
returns-clause-told c = λ limit at bytes told h.
    let i = c.self.inside in
    let r : TextReaderValue = record { reader = i.reader; stage = i.stage } in
    let more : List ℕ = take c.args.to c.args.slice.now in
    let k : HasTold limit at bytes told r = subst (λ (v : TextReaderValue). HasTold limit at bytes told v) (sym c.self.view_is) h in
    let f : FeedsOn more c.args.may_end i.stage = subst (λ (v : TextReaderValue). FeedsOn more c.args.may_end v.stage) (sym c.self.view_is) c.requires.feeds in
    subst (λ (n : ℕ). HasTold limit at (bytes ++ take n c.args.slice.now) (told ++ (listed c.judge.result.ended ++ listed c.judge.result.refused)) c.judge.new.self) (sym c.judge.ensures.taken)
    (c.judge.ensures.told limit at (bytes ++ more) told
    (feeds c.reader_and_grammar.ensures.verdict limit at bytes more told c.args.may_end r _ k f refl c.feed_beginning.ensures.settings c.feed_beginning.ensures.start c.in_ok-feed_beginning.ensures.reads))
