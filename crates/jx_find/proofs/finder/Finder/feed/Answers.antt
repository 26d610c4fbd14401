use Rattle.std.proofs.Common.{◌++◌, sym, ◌∙◌}
use Rattle.jx_find.proofs.Finders.{fed_more, held_in}
use Rattle.jx_find.proofs.finder.Finder.feed.Goals as goal

pub returns-clause-fed : goal.returns-clause-fed
returns-clause-fed c = λ settings pointers bytes h.
    let f = c.args.self.now in
    let edges = c.deref.result.now in
    let was = held_in settings pointers bytes f h edges c.in-Some.held c.deref.ensures.value (sym c.take.ensures.value ∙ c.in-Some.is) in
    fed_more settings pointers bytes (bytes ++ c.args.slice.now) f h edges c.read_slice.new.reader c.in_ok-next.next _ c.deref.ensures.value (c.in_ok-next.ensures.held settings bytes was)
