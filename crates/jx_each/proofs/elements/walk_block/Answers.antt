use Rattle.std.proofs.Common.{ℕ, ap, ◌∙◌}
use Rattle.jx_lex.specs.inside.Bits.{bit}
use Rattle.jx_lex.proofs.Bits.{bit-none}
use Rattle.jx_each.proofs.elements.walk_block.Goals as goal

pub walk_stretch-requires-clause-solid : goal.walk_stretch-requires-clause-solid
walk_stretch-requires-clause-solid c = λ k _ _. ap (λ (m : ℕ). bit m k) c.if-view-eq0.true ∙ bit-none k
