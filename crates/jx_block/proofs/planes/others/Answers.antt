use Rattle.std.proofs.Common.{ℕ, ◌∙◌, refl, not, cond, leb, bit_or, arith}
use Rattle.std.proofs.lemmas.Simd.{zip2_splat, zip2_of_maps, splat_is_map}
use Rattle.jx_lex.specs.Uneventful.{is_plain}
use Rattle.jx_lex.proofs.Lanes.{masked, lanes_mask}
use Rattle.jx_block.proofs.planes.others.Goals as goal

pub returns : goal.returns
returns c =
    let v = c.args.block in
    let long = c.fits-block.0 in
    let at_least : ℕ → ℕ → ℕ = λ a b. cond (leb a b) 255 0 in
    masked (zip2_of_maps bit_or _ _ v
    (zip2_of_maps bit_or _ _ v (zip2_splat _ v 64 0x22 long) (zip2_splat _ v 64 0x5c long))
    (zip2_of_maps at_least (λ _. 0x60) _ v (splat_is_map {Y = ℕ} v 64 0x60 long) (zip2_splat _ v 64 0x20 long)))
    ∙ lanes_mask 64 (omega arith) _ (λ byte. not (is_plain byte)) v long c.fits-block.1 refl
