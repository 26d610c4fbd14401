use Rattle.std.proofs.Common.{◌-◌}
use Rattle.test_calls.proofs.run.joins.+by_halves.Given as goal

abbrev pub decreases-by_halves : goal.decreases-by_halves
decreases-by_halves g c = c.end - c.start
