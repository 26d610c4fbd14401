use Rattle.std.proofs.Common.{ℕ, ◌∙◌, refl, cond, ltb, bit_or, arith}
use Rattle.std.proofs.lemmas.Simd.{zip2_splat, zip2_of_maps, splat_is_map}
use Rattle.jx_lex.specs.Uneventful.{is_hex}
use Rattle.jx_lex.proofs.Lanes.{masked, lanes_mask}
use Rattle.jx_lex.proofs.scanner.escape_blocks.hex_digits.Goals as goal

pub returns : goal.returns
returns c =
    let v = c.args.block in
    let long = c.fits-block.0 in
    let below : ℕ → ℕ → ℕ = λ a b. cond (ltb a b) 255 0 in
    masked (zip2_of_maps bit_or _ _ v
    (zip2_of_maps below _ (λ _. 10) v (zip2_splat _ v 64 0x30 long) (splat_is_map {Y = ℕ} v 64 10 long))
    (zip2_of_maps below _ (λ _. 6) v
    (zip2_of_maps _ _ (λ _. 0x61) v (zip2_splat bit_or v 64 0x20 long) (splat_is_map {Y = ℕ} v 64 0x61 long))
    (splat_is_map {Y = ℕ} v 64 6 long)))
    ∙ lanes_mask 64 (omega arith) _ is_hex v long c.fits-block.1 refl
