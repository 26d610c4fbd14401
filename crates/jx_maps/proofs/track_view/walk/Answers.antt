use Rattle.std.proofs.Common.{◌≡◌, ◌∷◌, drop, get_or, ◌+◌, sym, ◌∙◌}
use Rattle.std.proofs.lemmas.List.{take_rest, drop_more}
use Rattle.jx_maps.proofs.track_view.walk.Goals as goal

pub returns-clause-more : goal.returns-clause-more
returns-clause-more c =
    let e : c.in-Some.segment.now ∷ c.in-Some.more.now ≡ get_or c.args.rest.now c.args.skip c.in-Some.segment.now ∷ drop (c.args.skip + 1) c.args.rest.now =
    sym c.in-Some.ensures.cases.0 ∙ take_rest c.args.rest.now c.args.skip ∙ drop_more c.args.rest.now c.args.skip c.in-Some.segment.now c.requires in
    cc
