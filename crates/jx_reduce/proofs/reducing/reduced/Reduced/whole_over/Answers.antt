use Rattle.std.proofs.Common.{◌-◌, length, sym, ◌∙◌, ap}
use Rattle.std.specs.Prelude.{slice_get}
use Rattle.jx_reduce.proofs.Acting.{decided_there}
use Rattle.jx_reduce.proofs.reducing.reduced.Reduced.whole_over.Goals as goal

pub unreachable-requires : goal.unreachable-requires
unreachable-requires c =
    let levels = c.args.self.now.levels in
    let holders = c.args.holders.now in
    decided_there c.args.self.now.depth _ holders _ c.in-Ok.left c.args.self.now.fits c.in-Ok.ensures.reach c.in-None-exit.is c.in-Ok.ensures.left c.requires
    (sym c.in-None.is ∙ c.height_at-deep.ensures ∙ ap (λ d. slice_get levels.heights.items (d - length holders)) c.containers-depth.ensures.value)
