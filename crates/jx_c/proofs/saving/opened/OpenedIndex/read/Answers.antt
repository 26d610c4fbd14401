use Rattle.std.proofs.Common.{inr, refl, ◌∙◌}
use Rattle.jx_c.proofs.saving.opened.OpenedIndex.read.Goals as goal

pub returns-then-saved-size-clause-refused : goal.returns-then-saved-size-clause-refused
returns-then-saved-size-clause-refused c = inr (inr (refl, (c.in-Ok.saved, c.in-Ok.ensures.found, λ e. c.if-saved-size.true e)))

pub returns-then-saved-size-clause-reads : goal.returns-then-saved-size-clause-reads
returns-then-saved-size-clause-reads c = λ t savable spelt size. absurd (c.if-saved-size.true ((c.in-Ok.ensures.reads t savable spelt).index.size ∙ size))
