use Rattle.jx_c.proofs.texts.all.pointer_or_root.Goals as goal

pub returns-in_default : goal.returns-in_default
returns-in_default c = λ is. absurd (c.in_default.ensures.unspelt is)
