-- A known stack: the depth, and the plain reading of the tokens that it was given.
use Rattle.std.specs.Prelude.{◌≡◌, ℕ, ◌≤◌, List, [], ◌∷◌, length, take}
use Rattle.jx_reduce.specs.Read.{Reading, went, stopped, too_deep, read}
use Rattle.jx_reduce.specs.declared.table.expect.Expect.TheVariants.{Value}
use Rattle.jx_lex.specs.declared.alphabet.mark.Mark.{Mark}

pub record Known : Type 0 where
  pub depth : ℕ
  pub reading : Reading

-- where a text starts, a value is expected and nothing is open
abbrev pub start : Reading
start = went Value []

-- these are the tokens that it was given since the start
abbrev pub HasRead : List Mark → Known → Type 0
HasRead marks k = k.reading ≡ read k.depth marks start

abbrev pub IsFault : Reading → Type 0
IsFault (went e s) = ⊥
IsFault (stopped at) = Unit {0}
IsFault (too_deep at) = Unit {0}

-- the reading went on over a beginning of these tokens
pub record IsPartRead (old new : Known) (marks : List Mark) : Type 0 where
  pub count : ℕ
  pub within : count ≤ length marks
  pub reading : new.reading ≡ read old.depth (take count marks) old.reading

-- the tokens of a scan that it has seen: the ends are ignored, but that they begin with the depth, which therefore
-- stays
pub record HasSeen (marks : List Mark) (ends : List ℕ) (stack : Known) : Type 0 where
  pub read : HasRead marks stack
  pub rest : List ℕ
  pub depth : ends ≡ stack.depth ∷ rest
