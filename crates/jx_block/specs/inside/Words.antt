-- Bits of a word beside each other.
use Rattle.std.specs.Prelude.{ℕ, zero, suc, Bool, false}

-- the bit before
abbrev pub behind : (ℕ → Bool) → ℕ → Bool
behind f zero = false
behind f (suc k) = f k
