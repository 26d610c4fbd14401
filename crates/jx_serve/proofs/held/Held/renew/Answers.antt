use Rattle.jx_serve.proofs.held.Held.renew.Goals as goal

pub invariant_of-self : goal.invariant_of-self
invariant_of-self c = (c.in-Ok.ensures.settings, c.new.ensures c.self.inside.settings.depth c.in-Ok.document.bytes)
