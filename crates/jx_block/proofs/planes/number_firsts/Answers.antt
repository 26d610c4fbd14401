use Rattle.std.proofs.Common.{◌∙◌}
use Rattle.std.specs.Prelude.{◌||◌, ◌==◌}
use Rattle.jx_lex.specs.Uneventful.{is_digit}
use Rattle.jx_lex.proofs.Bits.{bit-or}
use Rattle.jx_block.proofs.Words.{lane}
use Rattle.jx_block.proofs.planes.number_firsts.Goals as goal

pub returns : goal.returns
returns c k lt =
    let v = c.args.block in
    let long = c.fits-block.0 in
    bit-or _ _ k ∙ (λ i. lane is_digit v c.digits.result k long c.digits.ensures lt i || lane (λ b. b == 0x2d) v c.equal.result k long c.equal.ensures lt i)
