use Rattle.std.proofs.Common.{◌++◌, map}
use Rattle.jx_ndjson.specs.WholeLines.{moved_line}
use Rattle.jx_ndjson.proofs.lines_run.joined.Goals as goal

pub returns-in-Ok-clause-joins : goal.returns-in-Ok-clause-joins
returns-in-Ok-clause-joins c = λ limit xs ys before more h k.
    (before ++ map (moved_line c.args.lines.count c.args.lines.len) more, c.in-Ok.ensures.joins limit xs ys before more h k)
