use Rattle.std.proofs.Common.{◌∙◌}
use Rattle.std.specs.Prelude.{◌||◌, ◌==◌, get_or}
use Rattle.jx_lex.proofs.Bits.{bit-or}
use Rattle.jx_block.specs.inside.Planes.{is_space}
use Rattle.jx_block.proofs.Words.{lane, regroup}
use Rattle.jx_block.proofs.planes.stops.Goals as goal

pub returns : goal.returns
returns c k lt =
    let v = c.args.block in
    let long = c.fits-block.0 in
    bit-or _ _ k
    ∙ (λ i.
    (bit-or _ _ k
    ∙ (λ i.
    (bit-or _ _ k ∙ (λ i. lane (λ b. b == 0x2c) v c.equal.result k long c.equal.ensures lt i || lane (λ b. b == 0x5d) v c.equal-2.result k long c.equal-2.ensures lt i)) i
    || lane (λ b. b == 0x7d) v c.equal-3.result k long c.equal-3.ensures lt i)) i
    || lane is_space v c.spaces.result k long c.spaces.ensures lt i)
    ∙ regroup (((get_or v k 0 == 0x2c) || (get_or v k 0 == 0x5d)) || (get_or v k 0 == 0x7d)) (get_or v k 0 == 0x20) (get_or v k 0 == 0x0a) (get_or v k 0 == 0x0d)
