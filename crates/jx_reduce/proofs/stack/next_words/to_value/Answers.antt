use Rattle.std.proofs.Common.{◌∙◌}
use Rattle.std.specs.Prelude.{◌||◌}
use Rattle.jx_lex.proofs.Bits.{bit-or}
use Rattle.jx_block.proofs.WordsTell.{but}
use Rattle.jx_reduce.proofs.stack.next_words.to_value.Goals as goal

pub returns : goal.returns
returns c k lt =
    let t = c.args.kinds.now in
    bit-or _ _ k ∙ (λ i. bit-or t.open_arrays t.colons k i || but t.commas c.args.objects k c.ranges.objects.fits lt i)
