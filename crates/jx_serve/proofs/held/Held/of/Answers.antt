use Rattle.jx_serve.proofs.held.Held.of.Goals as goal

pub invariant_of-result : goal.invariant_of-result
invariant_of-result c = (c.in_ok-document.ensures.settings, c.new.ensures c.args.settings.depth c.in_ok-document.document.bytes)
