use Rattle.std.proofs.Common.{◌∙◌}
use Rattle.std.specs.Prelude.{◌||◌}
use Rattle.jx_lex.proofs.Bits.{bit-or}
use Rattle.jx_block.proofs.WordsTell.{but}
use Rattle.jx_reduce.proofs.stack.next_words.to_first.Goals as goal

pub returns : goal.returns
returns c k lt =
    let t = c.args.kinds.now in
    bit-or _ _ k ∙ (λ i. bit-or t.open_arrays t.open_objects k i || but t.strings c.args.value k c.ranges.value.fits lt i)
