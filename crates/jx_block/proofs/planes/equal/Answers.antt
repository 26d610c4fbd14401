use Rattle.std.proofs.Common.{◌≡◌, ◌%◌, ◌^◌, ℕ, Bool, true, false, cond, List, [], ◌∷◌, map, ◌∙◌, ap, refl, arith}
use Rattle.std.specs.Prelude.{◌==◌}
use Rattle.std.specs.Simd.Lanes.{mask_l, top}
use Rattle.std.proofs.lemmas.List.{length-map}
use Rattle.std.proofs.lemmas.Simd.{mask_l-mod, zip2_splat}
use Rattle.jx_lex.proofs.Lanes.{masked}
use Rattle.jx_block.proofs.planes.equal.Goals as goal

-- the highest bit of a lane that is all ones or none
top_of : (t : Bool) → top 7 (cond t 255 0) ≡ t
top_of true = refl
top_of false = refl

-- each lane, tested for one byte
tested : (byte : ℕ) (v : List ℕ) → map (top 7) (map (λ x. cond {A = ℕ} (x == byte) 255 0) v) ≡ map (λ x. x == byte) v
tested byte [] = refl
tested byte (x ∷ v) = (λ i. top_of (x == byte) i ∷ tested byte v i)

pub returns : goal.returns
returns c =
    let v = c.args.block in
    let long = c.fits-block.0 in
    masked (zip2_splat _ v 64 c.args.byte long)
    ∙ ap (λ l. mask_l l % 2 ^ 64) (tested c.args.byte v)
    ∙ mask_l-mod (map (λ x. x == c.args.byte) v) 64 (omega (arith, long, length-map v (λ x. x == c.args.byte)))
