use Rattle.std.proofs.Common.{◌∙◌, ap, sym}
use Rattle.std.specs.Prelude.{◌==◌}
use Rattle.std.proofs.lemmas.Nat.Bits.{bit_at_ones}
use Rattle.jx_lex.specs.inside.Bits.{bit}
use Rattle.jx_lex.proofs.Bits.{bit-none}
use Rattle.jx_reduce.proofs.stack.bracket_walk.all_bits.Goals as goal

pub returns-then-set : goal.returns-then-set
unfolding bit
returns-then-set c j lt = ap (λ n. n == 1) (bit_at_ones 64 j lt) ∙ sym c.if-set.true

pub returns-else-set : goal.returns-else-set
returns-else-set c j lt = bit-none j ∙ sym c.if-set.false
