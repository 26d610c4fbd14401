use Rattle.std.proofs.Common.{ap, subst, sym, take}
use Rattle.jx_ndjson.specs.Reading.{IsOpen, LineReaderValue}
use Rattle.jx_ndjson.proofs.Steps.{goes_on, longer_line}
use Rattle.jx_ndjson.proofs.line_reader.LineReader.go_on.Goals as goal

pub returns-clause-told : goal.returns-clause-told
returns-clause-told c = λ settings at before told h.
    let i = c.self.inside in
    let r : LineReaderValue = record { reader = i.reader; is_blank = i.is_blank; open_ended = i.open_ended; ended = i.ended; in_front = i.in_front } in
    let more = take c.args.to c.args.slice.now in
    goes_on settings at before more told _ _ h c.requires.on_the_line (ap (λ (v : LineReaderValue). v.ended) c.self.view_is)
    (λ p o. longer_line settings p more r _ (subst (λ (v : LineReaderValue). IsOpen settings p v) (sym c.self.view_is) o)
    c.feed_beginning.ensures.settings c.feed_beginning.ensures.start c.in_ok-feed_beginning.ensures.reads c.blanks_behind-self-inside.ensures c.ends_open_behind-self-inside.ensures)
