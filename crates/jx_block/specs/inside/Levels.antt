-- The level of open containers among bytes at which words have bits.
use Rattle.std.specs.Prelude.{◌≡◌, ℕ, zero, suc, ◌%◌, ◌^◌, Bool, true, false, cond, bit_and}
use Rattle.std.specs.Int.RustNames.{count_ones}
use Rattle.jx_lex.specs.Counts.{Levels, at_start, closing, seen_there}
use Rattle.jx_block.specs.Listed.{is_set}
use Rattle.jx_block.specs.declared.levels.LevelCounts.{LevelCounts}

abbrev pub levels : LevelCounts → Levels
levels c = record { lowest = c.lowest; above = c.above; commas = c.commas; values = c.values }

abbrev pub one_if : Bool → ℕ
one_if b = cond b 1 0

-- behind a byte that opens a container or closes one
abbrev pub moved : (opens closes : Bool) → Levels → Levels
moved true closes l = record l { above = suc l.above }
moved false true l = closing l
moved false false l = l

-- behind the first n bytes
abbrev pub levels_to : (opening closing commas values n : ℕ) → Levels
levels_to o c m v zero = at_start
levels_to o c m v (suc n) = moved (is_set o n) (is_set c n) (seen_there (one_if (is_set m n)) (one_if (is_set v n)) (levels_to o c m v n))

-- how many of a word's first n bits are set
abbrev pub ones : ℕ → ℕ → ℕ
ones word n = count_ones (word % 2 ^ n)

-- a mask has the bytes at the lowest level, of the first n
pub record HasLowest (commas values n lowest above bytes : ℕ) (l : Levels) : Type 0 where
  pub lowest_is : lowest ≡ l.lowest
  pub above_is : above ≡ l.above
  pub commas_are : ones (bit_and commas bytes) n ≡ l.commas
  pub values_are : ones (bit_and values bytes) n ≡ l.values
