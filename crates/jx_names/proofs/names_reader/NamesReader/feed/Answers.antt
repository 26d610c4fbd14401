use Rattle.std.proofs.Common.{sym, ◌∙◌}
use Rattle.jx_names.proofs.Feeds.{fed_more}
use Rattle.jx_names.proofs.names_reader.NamesReader.feed.Goals as goal

pub returns-clause-fed : goal.returns-clause-fed
returns-clause-fed c = λ settings bytes h.
    let f = c.args.self.now in
    let law = c.slices_are_told_in_turn.ensures in
    let slice = c.args.slice.now in
    let e = c.in_ok-next.ensures in
    fed_more settings bytes slice f h c.feed_held.new.reader c.in-Some.held c.in_ok-next.next _ (sym c.take.ensures.value ∙ c.in-Some.is) e.settings e.start e.reads
    (λ q. law.faults settings.mark settings.depth bytes slice q) (λ q. law.marks settings.mark settings.depth bytes slice q) (λ q. law.ends settings.mark settings.depth bytes slice q)
    (λ going before is marks ends was. e.held going before is bytes marks ends was)
