use Rattle.std.proofs.Common.{◌∙◌, refl, not, bit_or, arith}
use Rattle.std.proofs.lemmas.Simd.{zip2_splat, zip2_of_maps}
use Rattle.jx_lex.proofs.Lanes.{masked, lanes_mask}
use Rattle.jx_each.specs.inside.Runs.{is_char}
use Rattle.jx_each.proofs.runs.CharsByteSet.others.Goals as goal

pub returns : goal.returns
returns c =
    let v = c.args.block in
    let long = c.fits-block.0 in
    masked (zip2_of_maps bit_or _ _ v (zip2_splat _ v 16 0x22 long) (zip2_splat _ v 16 0x5c long))
    ∙ lanes_mask 16 (omega arith) _ (λ byte. not (is_char byte)) v long c.fits-block.1 refl
