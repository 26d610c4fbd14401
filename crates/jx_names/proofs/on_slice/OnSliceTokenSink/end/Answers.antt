use Rattle.std.proofs.Common.{◌∙◌}
use Rattle.jx_names.specs.inside.KeptNames.{kept}
use Rattle.jx_names.proofs.Telling.{has_end}
use Rattle.jx_names.proofs.on_slice.OnSliceTokenSink.end.Goals as goal

pub returns-clause-seen : goal.returns-clause-seen
returns-clause-seen g c = λ marks ends h.
    let k = c.args.self.now in
    has_end g.B.Before.held g.B.Before.slice marks ends k.slice.now k.base (kept k.names) c.in-Some.mark c.args.at (kept c.tell.new.self) k.begun k.name.items _ c.in_ok-name.name.now c.in-Some.is c.in_ok-tell.ensures
    (λ next before future base name_is. c.in_ok-name.ensures (c.is_name_next-wanted.ensures ∙ next) before future base name_is) h
