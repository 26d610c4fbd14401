-- Facts that every structure keeps, and what parts must be to make one.
use Rattle.std.specs.Prelude.{ℕ, ◌+◌, ◌≤◌, List, [], ◌∷◌, Option, None, Some, length}
use Rattle.jx_reduce.specs.Fits.{Fits, GoesOn}
use Rattle.jx_reduce.specs.Form.{Form}
use Rattle.jx_reduce.specs.Offsets.{OffsetsIn, RisingFrom}
use Rattle.jx_reduce.specs.Structure.{StructureValue}
use Rattle.jx_lex.specs.declared.alphabet.mark.Mark.{Mark}

-- the first offset after these tokens, which stand from an offset on
abbrev pub end_of : ℕ → List Mark → ℕ
end_of b [] = b
end_of b (m ∷ ms) = end_of (m.at + 1) ms

-- a form within the depth, whose offsets lie after the head
pub record IsTail (d b : ℕ) (t : Form) : Type 0 where
  pub fits : Fits d t
  pub goes_on : GoesOn t
  pub offsets : OffsetsIn (λ p. b ≤ p) t

abbrev pub IsTailOf : ℕ → ℕ → Option Form → Type 0
IsTailOf d b None = Unit {0}
IsTailOf d b (Some t) = IsTail d b t

pub record IsSound (f : StructureValue) : Type 0 where
  pub few : length f.head ≤ 2
  pub rising : RisingFrom 0 f.head
  pub tail : IsTailOf f.depth (end_of 0 f.head) f.tail
