use Rattle.std.proofs.Common.{◌∙◌}
use Rattle.std.specs.Prelude.{◌||◌, ◌==◌}
use Rattle.jx_lex.proofs.Bits.{bit-or}
use Rattle.jx_block.proofs.Words.{lane}
use Rattle.jx_block.proofs.planes.structurals.Goals as goal

pub returns : goal.returns
returns c k lt =
    let v = c.args.block in
    let long = c.fits-block.0 in
    bit-or _ _ k
    ∙ (λ i.
    (bit-or _ _ k
    ∙ (λ i.
    (bit-or _ _ k
    ∙ (λ i.
    (bit-or _ _ k
    ∙ (λ i.
    (bit-or _ _ k
    ∙ (λ i. lane (λ b. b == 0x5b) v c.equal.result k long c.equal.ensures lt i || lane (λ b. b == 0x5d) v c.equal-2.result k long c.equal-2.ensures lt i)) i
    || lane (λ b. b == 0x7b) v c.equal-3.result k long c.equal-3.ensures lt i)) i
    || lane (λ b. b == 0x7d) v c.equal-4.result k long c.equal-4.ensures lt i)) i
    || lane (λ b. b == 0x3a) v c.equal-5.result k long c.equal-5.ensures lt i)) i
    || lane (λ b. b == 0x2c) v c.equal-6.result k long c.equal-6.ensures lt i)
