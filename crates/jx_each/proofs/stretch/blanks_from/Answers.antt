use Rattle.jx_each.proofs.Stretching.{blanks_passed}
use Rattle.jx_each.proofs.stretch.blanks_from.Goals as goal

pub returns-in-Between-clause-passed : goal.returns-in-Between-clause-passed
returns-in-Between-clause-passed c = blanks_passed c.args.place _ c.in-Between.is c.blanks_end.ensures.run
