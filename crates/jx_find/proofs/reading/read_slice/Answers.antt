use Rattle.jx_find.proofs.Finders.{held_more}
use Rattle.jx_find.proofs.reading.read_slice.Goals as goal

pub returns-clause-held : goal.returns-clause-held
returns-clause-held c = λ settings bytes h.
    let law = c.slices_are_told_in_turn.ensures in
    let slice = c.args.slice.now in
    let e = c.in_ok-next.ensures in
    held_more settings bytes slice c.args.edges.now c.args.reader.now c.seek.new.reader c.args.held c.in_ok-next.next h e.settings e.start e.reads
    (λ q. law.faults settings.mark settings.depth bytes slice q) (λ q. law.marks settings.mark settings.depth bytes slice q) (λ q. law.ends settings.mark settings.depth bytes slice q)
    (λ going before is marks ends was. e.held going before is bytes marks ends was)
