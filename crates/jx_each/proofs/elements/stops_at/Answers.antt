use Rattle.jx_each.proofs.Walking.{either, neither}
use Rattle.jx_each.proofs.elements.stops_at.Goals as goal

pub returns-else-height-gt1-clause-brackets : goal.returns-else-height-gt1-clause-brackets
returns-else-height-gt1-clause-brackets c = λ k clear. (neither c.args.words.brackets c.args.words.borders k clear).0

pub returns-else-height-gt1-clause-borders : goal.returns-else-height-gt1-clause-borders
returns-else-height-gt1-clause-borders c = λ _ k clear. (neither c.args.words.brackets c.args.words.borders k clear).1

pub returns-else-height-gt1-clause-set : goal.returns-else-height-gt1-clause-set
returns-else-height-gt1-clause-set c = λ k set. either c.args.words.brackets c.args.words.borders k set
