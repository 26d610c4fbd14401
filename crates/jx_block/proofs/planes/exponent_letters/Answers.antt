use Rattle.std.proofs.Common.{◌∙◌, refl, bit_or, arith}
use Rattle.std.proofs.lemmas.Simd.{zip2_splat, zip2_of_maps}
use Rattle.jx_block.specs.inside.Planes.{is_exponent}
use Rattle.jx_lex.proofs.Lanes.{masked, lanes_mask}
use Rattle.jx_block.proofs.planes.exponent_letters.Goals as goal

pub returns : goal.returns
returns c =
    let v = c.args.block in
    let long = c.fits-block.0 in
    masked (zip2_of_maps bit_or _ _ v (zip2_splat _ v 64 0x65 long) (zip2_splat _ v 64 0x45 long))
    ∙ lanes_mask 64 (omega arith) _ is_exponent v long c.fits-block.1 refl
