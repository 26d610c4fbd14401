use Rattle.std.proofs.Common.{◌∙◌, refl, arith}
use Rattle.std.proofs.lemmas.Simd.{zip2_splat, zip2_of_maps}
use Rattle.jx_lex.proofs.Lanes.{masked, lanes_mask}
use Rattle.jx_each.specs.inside.Runs.{is_border}
use Rattle.jx_each.proofs.blocks.borders.Goals as goal

pub returns : goal.returns
returns c =
    let v = c.args.block in
    let long = c.fits-block.0 in
    masked (zip2_of_maps _ _ _ v (zip2_splat _ v 64 0x2c long) (zip2_splat _ v 64 0x3a long))
    ∙ lanes_mask 64 (omega arith) _ is_border v long c.fits-block.1 refl
