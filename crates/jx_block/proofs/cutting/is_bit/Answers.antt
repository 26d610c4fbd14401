use Rattle.std.proofs.Common.{eqb, ap}
use Rattle.std.proofs.lemmas.Nat.Bits.{shr_and_one}
use Rattle.jx_lex.specs.inside.Bits.{bit}
use Rattle.jx_block.proofs.cutting.is_bit.Goals as goal

pub returns : goal.returns
unfolding bit
returns c = ap (λ n. eqb n 1) (shr_and_one c.args.word c.args.k)
