use Rattle.std.proofs.Common.{arith}
use Rattle.jx_index.specs.inside.Finding.{met_ended}
use Rattle.jx_index.proofs.FinderSteps.{change-set, change-past}
use Rattle.jx_index.proofs.finder.shut.Goals as goal

pub returns-then-level-len : goal.returns-then-level-len
returns-then-level-len c =
    change-set (met_ended c.args.end) c.args.met.now.items c.args.level c.index.result.now c.met_ended-more.result (omega arith) c.index.ensures c.met_ended-more.ensures

pub returns-else-level-len : goal.returns-else-level-len
returns-else-level-len c = change-past (met_ended c.args.end) c.args.met.now.items c.args.level (omega arith)
