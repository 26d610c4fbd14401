use Rattle.std.proofs.Common.{◌∙◌, Some, sym, ap}
use Rattle.jx_wire.proofs.Nodes.{at_root}
use Rattle.jx_wire.proofs.message.Message.root.Goals as goal

pub returns : goal.returns
returns c = λ tree is. at_root c.args.self.now tree ∙ ap Some (sym c.root.ensures.first)
