-- Where a reading stands after bytes.
use Rattle.std.specs.Prelude.{◌≡◌, ℕ, List, [], ◌∷◌}
use Rattle.jx_lex.specs.declared.alphabet.mark.Mark.{Mark}
use Rattle.jx_reduce.specs.Read.{top}
use Rattle.jx_reduce.specs.declared.table.holder.Holder.{Holder}
use Rattle.jx_run.specs.Reading.{read_text, went}
use Rattle.jx_sentence.specs.declared.standing.Standing.{Standing}

-- the reading of these bytes from the start of a text, which stand from an offset on, met no fault within the depth,
-- and led to this
pub record StandsBehind (limit from : ℕ) (bytes : List ℕ) (s : Standing) : Type 0 where
  -- the open containers, innermost first
  pub open_ones : List Holder
  pub reading : read_text limit from bytes ≡ went s.state s.expect open_ones
  pub innermost : s.top ≡ top open_ones

-- where the last of these tokens stands, which come after an offset; where there is none, that offset
abbrev pub last_at : ℕ → List Mark → ℕ
last_at from [] = from
last_at from (mark ∷ more) = last_at mark.at more
