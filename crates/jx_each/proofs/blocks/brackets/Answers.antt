use Rattle.std.proofs.Common.{ℕ, ◌∙◌, refl, bit_or, arith}
use Rattle.std.proofs.lemmas.Simd.{zip2_splat, zip2_of_maps, splat_is_map}
use Rattle.jx_lex.proofs.Lanes.{masked, lanes_mask}
use Rattle.jx_each.specs.inside.Runs.{is_bracket}
use Rattle.jx_each.proofs.blocks.brackets.Goals as goal

pub returns : goal.returns
returns c =
    let v = c.args.block in
    let long = c.fits-block.0 in
    masked (zip2_of_maps bit_or _ _ v
    (zip2_of_maps _ _ (λ _. 0x7b) v (zip2_splat _ v 64 0x20 long) (splat_is_map {Y = ℕ} v 64 0x7b long))
    (zip2_of_maps _ _ (λ _. 0x7d) v (zip2_splat _ v 64 0x20 long) (splat_is_map {Y = ℕ} v 64 0x7d long)))
    ∙ lanes_mask 64 (omega arith) _ is_bracket v long c.fits-block.1 refl
