use Rattle.jx_each.proofs.Stretching.{none_passed}
use Rattle.jx_each.proofs.elements.past_blanks.Goals as goal

pub returns-else-is_set-clause-passed : goal.returns-else-is_set-clause-passed
returns-else-is_set-clause-passed c = none_passed c.args.place c.args.bytes.now c.args.from
