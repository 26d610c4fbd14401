-- Scalars that stand whole in a block.
use Rattle.std.specs.Prelude.{◌≡◌, ◌⊎◌, ◌<◌, ◌≤◌, ◌+◌, ℕ, Bool, true, false, List}
use Rattle.jx_lex.specs.Whole.{PassesNumber, PassesLiteral}

-- the bytes between two offsets are a number or a literal
abbrev pub IsScalar : List ℕ → ℕ → ℕ → Type 0
IsScalar text from to = PassesNumber text from to ⊎ PassesLiteral text from to

-- a run of bytes of scalars from byte k of a block on is one scalar, and a byte before which it ends follows it
pub record IsWhole (text : List ℕ) (at : ℕ) (scalar stop : ℕ → Bool) (k : ℕ) : Type 0 where
  pub end : ℕ
  pub low : k < end
  pub high : end < 64
  pub run : (j : ℕ) → k ≤ j → j < end → scalar j ≡ true
  pub over : scalar end ≡ false
  pub stops : stop end ≡ true
  pub is : IsScalar text (at + k) (at + end)
