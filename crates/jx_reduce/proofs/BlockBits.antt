-- Bits of the words of a block.
use Rattle.std.proofs.Common.{◌≡◌, ℕ, ◌^◌, ◌<◌, not, ap, ◌∙◌, bit_or}
use Rattle.std.specs.Prelude.{◌||◌}
use Rattle.jx_lex.specs.inside.Bits.{bit}
use Rattle.jx_lex.proofs.Bits.{bit-or, bit-not}
use Rattle.jx_block.proofs.WordsTell.{flip}

-- the bits of two words, of three words, and of none of three
pub bit-or_3 : (a b c k : ℕ) → bit (bit_or (bit_or a b) c) k ≡ ((bit a k || bit b k) || bit c k)
bit-or_3 a b c k = bit-or (bit_or a b) c k ∙ ap (λ t. t || bit c k) (bit-or a b k)

pub bit-none_of_3 : (a b c k : ℕ) → bit_or (bit_or a b) c < 2 ^ 64 → k < 64 → bit (flip (bit_or (bit_or a b) c)) k ≡ not ((bit a k || bit b k) || bit c k)
bit-none_of_3 a b c k fits lt = bit-not (bit_or (bit_or a b) c) k fits lt ∙ ap not (bit-or_3 a b c k)
