use Rattle.std.proofs.Common.{sym, ◌∙◌}
use Rattle.jx_lex.proofs.Bits.{bit-none}
use Rattle.jx_each.proofs.Words.{one_first, one_others}
use Rattle.jx_each.proofs.blocks.lowest.Goals as goal

pub returns-then-set-clause-first : goal.returns-then-set-clause-first
returns-then-set-clause-first c = one_first ∙ sym c.if-set.true

pub returns-then-set-clause-others : goal.returns-then-set-clause-others
returns-then-set-clause-others c = one_others

pub returns-else-set-clause-first : goal.returns-else-set-clause-first
returns-else-set-clause-first c = bit-none 0 ∙ sym c.if-set.false

pub returns-else-set-clause-others : goal.returns-else-set-clause-others
returns-else-set-clause-others c = λ k. bit-none _
