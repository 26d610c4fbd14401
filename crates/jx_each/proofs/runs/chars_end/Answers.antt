use Rattle.std.proofs.Common.{length}
use Rattle.jx_each.specs.inside.Runs.{is_char}
use Rattle.jx_each.proofs.Keeping.{run_in}
use Rattle.jx_each.proofs.runs.chars_end.Goals as goal

pub returns-clause-run : goal.returns-clause-run
returns-clause-run c = run_in is_char c.args.bytes.now c.args.from (length c.args.bytes.now) c.run_end.result c.run_end.ensures
