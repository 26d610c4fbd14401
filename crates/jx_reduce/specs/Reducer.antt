-- A reducer as contracts see it, and when it was given exactly these tokens.
use Rattle.std.specs.Prelude.{◌≡◌, ℕ, ◌+◌, ◌<◌, ◌≤◌, List, ◌++◌, Option, None, Some, Bool, true}
use Rattle.jx_reduce.specs.Offsets.{EachIn, RisingFrom}
use Rattle.jx_reduce.specs.Structure.{StructureValue, IsOf, SpansIn}
use Rattle.jx_lex.specs.declared.alphabet.mark.Mark.{Mark}

pub record ReducerValue : Type 0 where
  pub depth : ℕ
  -- the structure of the tokens
  pub structure : StructureValue
  -- the offset of the last token that changed more than what is open and what may stand next, if any
  pub last : Option ℕ
  -- no such token was found at the offset of an earlier one or before it
  pub rising : Bool

-- the first offset after that token
abbrev pub past : Option ℕ → ℕ
past None = 0
past (Some at) = at + 1

-- the structure is of these tokens, and what goes on rising after them stands past the last
pub record IsReducedTo (marks : List Mark) (r : ReducerValue) : Type 0 where
  pub rising : r.rising ≡ true
  pub reads : IsOf marks r.structure
  pub offsets : (low high : ℕ) → EachIn (λ m. (low ≤ m.at) × (m.at < high)) marks → SpansIn low high r.structure
  pub behind : (more : List Mark) → RisingFrom 0 (marks ++ more) → RisingFrom (past r.last) more

-- these are the tokens that it was given, in the order of their offsets
abbrev pub HasReduced : List Mark → ReducerValue → Type 0
HasReduced marks r = RisingFrom 0 marks → IsReducedTo marks r
