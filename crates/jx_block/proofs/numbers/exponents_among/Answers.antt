use Rattle.std.proofs.Common.{◌∙◌, ap, sym}
use Rattle.std.specs.Prelude.{◌&&◌, get_or}
use Rattle.jx_lex.specs.inside.Bits.{bit}
use Rattle.jx_lex.proofs.Bits.{bit-and, bit-none}
use Rattle.jx_block.specs.inside.Planes.{is_exponent}
use Rattle.jx_block.proofs.Words.{lane}
use Rattle.jx_block.proofs.numbers.exponents_among.Goals as goal

pub returns-then-places-eq0 : goal.returns-then-places-eq0
returns-then-places-eq0 c k lt = bit-none k ∙ sym (ap (λ t. t && is_exponent (get_or c.args.block k 0)) (ap (λ w. bit w k) c.if-places-eq0.true ∙ bit-none k))

pub returns : goal.returns
returns c k lt =
    bit-and c.args.places c.exponent_letters.result k
    ∙ ap (λ t. bit c.args.places k && t) (lane is_exponent c.args.block c.exponent_letters.result k c.fits-block.0 c.exponent_letters.ensures lt)
