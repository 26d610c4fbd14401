use Rattle.jx_names.proofs.Telling.{held_first}
use Rattle.jx_names.proofs.held.Held.new.Goals as goal

pub returns-clause-held : goal.returns-clause-held
returns-clause-held c = held_first c.new.result c.new.ensures c.new-2.result.items
