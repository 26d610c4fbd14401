use Rattle.std.proofs.Common.{◌∙◌, ap, sym, arith}
use Rattle.std.specs.Prelude.{◌||◌}
use Rattle.jx_lex.specs.inside.Bits.{bit}
use Rattle.jx_lex.proofs.Bits.{bit-down, bit-or, bit-xor}
use Rattle.jx_block.proofs.WordsTell.{but}
use Rattle.jx_reduce.proofs.stack.next_words.unlike.Goals as goal

pub returns : goal.returns
returns c k lt none =
    let w = c.args.word in
    sym (bit-down w k) ∙ bit-xor _ _ k none ∙ bit-or _ _ k ∙ ap (λ b. bit c.args.to k || b) (but w c.args.starts k c.ranges.starts.fits (omega arith))
