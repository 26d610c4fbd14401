use Rattle.std.proofs.Common.{[]}
use Rattle.jx_wire.proofs.message.Message.top_value.Goals as goal

pub returns-clause-at : goal.returns-clause-at
returns-clause-at c = λ word. c.value_in.ensures.at word [] c.root.ensures
