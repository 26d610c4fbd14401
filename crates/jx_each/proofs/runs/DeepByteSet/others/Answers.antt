use Rattle.std.proofs.Common.{ℕ, ◌∙◌, refl, not, bit_or, arith}
use Rattle.std.proofs.lemmas.Simd.{zip2_splat, zip2_of_maps, splat_is_map}
use Rattle.jx_lex.proofs.Lanes.{masked, lanes_mask}
use Rattle.jx_each.specs.inside.Runs.{is_deep}
use Rattle.jx_each.proofs.runs.DeepByteSet.others.Goals as goal

pub returns : goal.returns
returns c =
    let v = c.args.block in
    let long = c.fits-block.0 in
    masked (zip2_of_maps bit_or _ _ v
    (zip2_of_maps bit_or _ _ v (zip2_splat _ v 16 0x23 long) (zip2_of_maps _ _ (λ _. 0x7b) v (zip2_splat _ v 16 0x20 long) (splat_is_map {Y = ℕ} v 16 0x7b long)))
    (zip2_of_maps _ _ (λ _. 0x7d) v (zip2_splat _ v 16 0x20 long) (splat_is_map {Y = ℕ} v 16 0x7d long)))
    ∙ lanes_mask 16 (omega arith) _ (λ byte. not (is_deep byte)) v long c.fits-block.1 refl
