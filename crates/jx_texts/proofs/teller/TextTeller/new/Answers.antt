use Rattle.std.proofs.Common.{refl}
use Rattle.jx_texts.proofs.Takes.{taken_none}
use Rattle.jx_texts.proofs.teller.TextTeller.new.Goals as goal

pub returns-clause-taken : goal.returns-clause-taken
returns-clause-taken c = taken_none c.args.task.now _ c.new.ensures.told refl c.new-2.ensures.items
