use Rattle.std.proofs.Common.{sym, ◌∙◌}
use Rattle.jx_reduce.proofs.Acting.{decided_there}
use Rattle.jx_reduce.proofs.forms.levels.Levels.act.Goals as goal

pub unreachable-requires : goal.unreachable-requires
unreachable-requires c =
    decided_there c.args.depth _ c.args.holders.now _ c.in-Ok.left c.requires.fits c.in-Ok.ensures.reach c.in-None-exit.is c.in-Ok.ensures.left c.requires.depth
    (sym c.in-None.is ∙ c.height_at-deep.ensures)
