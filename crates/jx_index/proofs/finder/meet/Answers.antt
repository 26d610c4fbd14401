use Rattle.std.proofs.Common.{arith}
use Rattle.jx_index.specs.inside.Finding.{met_more}
use Rattle.jx_index.proofs.FinderSteps.{change-set, change-past}
use Rattle.jx_index.proofs.finder.meet.Goals as goal

pub returns-then-level-len : goal.returns-then-level-len
returns-then-level-len c =
    change-set (met_more (record { kind = c.args.kind; span = c.args.span })) c.args.met.now.items c.args.level c.index.result.now c.met_more-more.result (omega arith) c.index.ensures c.met_more-more.ensures

pub returns-else-level-len : goal.returns-else-level-len
returns-else-level-len c = change-past (met_more (record { kind = c.args.kind; span = c.args.span })) c.args.met.now.items c.args.level (omega arith)
