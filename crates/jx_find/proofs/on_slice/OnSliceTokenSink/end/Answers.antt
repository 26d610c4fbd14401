use Rattle.std.proofs.Common.{◌∙◌}
use Rattle.jx_find.proofs.Soughts.{has_end}
use Rattle.jx_find.proofs.on_slice.OnSliceTokenSink.end.Goals as goal

pub returns-clause-seen : goal.returns-clause-seen
returns-clause-seen g c = λ marks ends h.
    let k = c.args.self.now in
    let m = c.in-Some.mark in
    has_end g.B.Before.held g.B.Before.slice g.B.Before.edges marks ends k.slice.now k.base k.edges.now k.seeker m c.args.at c.in_ok-end.end c.tell.new.self k.begun k.name.items _ c.in_ok-name.name.now
    c.in_ok-end.ensures c.in-Some.is (record { noted = c.in_ok-tell.ensures.noted; ready = c.in_ok-tell.ensures.next })
    (λ next before future base name_is. c.in_ok-name.ensures (c.is_name_next-wanted.ensures ∙ next) before future base name_is) h
