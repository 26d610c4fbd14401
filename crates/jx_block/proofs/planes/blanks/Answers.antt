use Rattle.std.proofs.Common.{◌≡◌, ◌∙◌, refl, Bool, true, false}
use Rattle.std.specs.Prelude.{◌||◌, ◌==◌, get_or}
use Rattle.jx_lex.proofs.Bits.{bit-or}
use Rattle.jx_block.specs.inside.Planes.{is_space}
use Rattle.jx_block.proofs.Words.{lane}
use Rattle.jx_block.proofs.planes.blanks.Goals as goal

-- the second of four last
second_last : (a t l c : Bool) → (((a || l) || c) || t) ≡ (((a || t) || l) || c)
second_last true t l c = refl
second_last false t true true = by_bit t
  where
    by_bit : (t : Bool) → true ≡ ((t || true) || true)
    by_bit true = refl
    by_bit false = refl
second_last false t true false = by_bit t
  where
    by_bit : (t : Bool) → true ≡ ((t || true) || false)
    by_bit true = refl
    by_bit false = refl
second_last false t false true = by_bit t
  where
    by_bit : (t : Bool) → true ≡ ((t || false) || true)
    by_bit true = refl
    by_bit false = refl
second_last false t false false = by_bit t
  where
    by_bit : (t : Bool) → t ≡ ((t || false) || false)
    by_bit true = refl
    by_bit false = refl

pub returns : goal.returns
returns c k lt =
    let v = c.args.block in
    let b = get_or v k 0 in
    let long = c.fits-block.0 in
    bit-or _ _ k
    ∙ (λ i. lane is_space v c.spaces.result k long c.spaces.ensures lt i || lane (λ b. b == 0x09) v c.equal.result k long c.equal.ensures lt i)
    ∙ second_last (b == 0x20) (b == 0x09) (b == 0x0a) (b == 0x0d)
