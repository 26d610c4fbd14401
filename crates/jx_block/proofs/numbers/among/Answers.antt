use Rattle.std.proofs.Common.{◌∙◌, ap, sym}
use Rattle.std.specs.Prelude.{◌==◌, ◌&&◌, get_or}
use Rattle.jx_lex.specs.inside.Bits.{bit}
use Rattle.jx_lex.proofs.Bits.{bit-and, bit-none}
use Rattle.jx_block.proofs.Words.{lane}
use Rattle.jx_block.proofs.numbers.among.Goals as goal

pub returns-then-places-eq0 : goal.returns-then-places-eq0
returns-then-places-eq0 c k lt = bit-none k ∙ sym (ap (λ t. t && (get_or c.args.block k 0 == c.args.byte)) (ap (λ w. bit w k) c.if-places-eq0.true ∙ bit-none k))

pub returns : goal.returns
returns c k lt =
    bit-and c.args.places c.equal.result k
    ∙ ap (λ t. bit c.args.places k && t) (lane (λ b. b == c.args.byte) c.args.block c.equal.result k c.fits-block.0 c.equal.ensures lt)
