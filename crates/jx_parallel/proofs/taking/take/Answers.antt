use Rattle.std.proofs.Common.{◌≡◌, rules, sym, subst, ◌∙◌}
use Rattle.jx_parallel.specs.inside.Placed.{placed}
use Rattle.jx_parallel.proofs.GoesOn.{placed_by, takes}
use Rattle.jx_parallel.proofs.taking.take.Goals as goal

pub returns : goal.returns
returns g c =
    let p = placed c.part.inside.part c.part.inside.at c.part.inside.len in
    let here : c.part.inside.at ≡ c.end-end.result = search rules in
    takes g.K.Ruled.text (g.L.PartReader.has_read c.args.rule.now) (g.L.PartReader.is_part c.args.rule.now) c.args.reader.now c.take.new.self p
    (placed_by g.K.Ruled.text g.L.PartReader.is_part g.K.Ruled.rule c.args.rule.now p c.requires.rule c.part.invariant)
    (λ xs given h. here ∙ c.end-end.ensures.length c.args.rule.now xs given h)
    c.in_ok-_took._took c.in_ok-_took.ensures.taken c.in_ok-_took.ensures.left
