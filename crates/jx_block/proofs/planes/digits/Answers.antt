use Rattle.std.proofs.Common.{ℕ, ◌∙◌, refl, cond, leb, arith}
use Rattle.std.proofs.lemmas.Simd.{zip2_splat, zip2_of_maps, splat_is_map}
use Rattle.jx_lex.specs.Uneventful.{is_digit}
use Rattle.jx_lex.proofs.Lanes.{masked, lanes_mask}
use Rattle.jx_block.proofs.planes.digits.Goals as goal

pub returns : goal.returns
returns c =
    let v = c.args.block in
    let long = c.fits-block.0 in
    let at_most : ℕ → ℕ → ℕ = λ a b. cond (leb a b) 255 0 in
    masked (zip2_of_maps at_most _ (λ _. 9) v (zip2_splat _ v 64 0x30 long) (splat_is_map {Y = ℕ} v 64 9 long))
    ∙ lanes_mask 64 (omega arith) _ is_digit v long c.fits-block.1 refl
