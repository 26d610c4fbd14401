-- How many tokens of each kind there are (RFC 8259, sections 2 and 3), and at the lowest level.
use Rattle.std.specs.Prelude.{◌≡◌, ℕ, suc, ◌+◌, ◌-◌, ◌==◌, Bool, true, false, if◌then◌else◌, List, count_by, fold, length}
use Rattle.jx_lex.specs.declared.alphabet.mark.Mark.{Mark}
use Rattle.jx_lex.specs.declared.alphabet.mark.MarkKind.{MarkKind}
use Rattle.jx_lex.specs.declared.alphabet.mark.MarkKind.TheVariants.{OpenArray, CloseArray, OpenObject, CloseObject, Colon, Comma, String, Number, True, False, Null}
use Rattle.jx_lex.specs.declared.scanner.counts.TokenCounts.{TokenCounts}

abbrev pub is_comma : MarkKind → Bool
is_comma Comma = true
is_comma _ = false

abbrev pub is_string : MarkKind → Bool
is_string String = true
is_string _ = false

-- a number or a literal
abbrev pub is_scalar : MarkKind → Bool
is_scalar Number = true
is_scalar True = true
is_scalar False = true
is_scalar Null = true
is_scalar _ = false

abbrev pub opens : MarkKind → Bool
opens OpenArray = true
opens OpenObject = true
opens _ = false

abbrev pub closes : MarkKind → Bool
closes CloseArray = true
closes CloseObject = true
closes _ = false

-- a bracket of an object
abbrev pub is_brace : MarkKind → Bool
is_brace OpenObject = true
is_brace CloseObject = true
is_brace _ = false

-- how many of these token starts pass a test
abbrev pub number_of : (MarkKind → Bool) → List Mark → ℕ
number_of test marks = count_by (λ mark. test mark.kind) marks

-- ---- levels

-- The level is how many containers are open. It fell so far below where it began at most, and stands so far above the
-- lowest; so many commas stand and so many values begin at the lowest.
pub record Levels : Type 0 where
  pub lowest : ℕ
  pub above : ℕ
  pub commas : ℕ
  pub values : ℕ

abbrev pub at_start : Levels
at_start = record { lowest = 0; above = 0; commas = 0; values = 0 }

-- commas and values count at the lowest level
abbrev pub seen_there : ℕ → ℕ → Levels → Levels
seen_there commas values l = if l.above == 0 then record l { commas = l.commas + commas; values = l.values + values } else l

-- a container is a value of the one around it
abbrev pub opening : Levels → Levels
opening l = let seen = seen_there 0 1 l in record seen { above = suc seen.above }

-- below the lowest level nothing was seen yet
abbrev pub closing : Levels → Levels
closing l = if l.above == 0 then record { lowest = suc l.lowest; above = 0; commas = 0; values = 0 } else record l { above = l.above - 1 }

-- one token start more
abbrev pub on_level : MarkKind → Levels → Levels
on_level OpenArray l = opening l
on_level OpenObject l = opening l
on_level CloseArray l = closing l
on_level CloseObject l = closing l
on_level Comma l = seen_there 1 0 l
on_level Colon l = l
on_level _ l = seen_there 0 1 l

-- all of them, from the first to the last
abbrev pub levels_of : List Mark → Levels
levels_of marks = fold (λ l mark. on_level mark.kind l) at_start marks

-- there are so many tokens of each kind and at the lowest level, and an end of each string, number and literal
pub record HasCounts (marks : List Mark) (ends : List ℕ) (counts : TokenCounts) : Type 0 where
  pub commas : number_of is_comma marks ≡ counts.commas
  pub strings : number_of is_string marks ≡ counts.strings
  pub scalars : number_of is_scalar marks ≡ counts.scalars
  pub opening : number_of opens marks ≡ counts.opening
  pub closing : number_of closes marks ≡ counts.closing
  pub braces : number_of is_brace marks ≡ counts.braces
  pub ended : length ends ≡ counts.strings + counts.scalars
  pub lowest : (levels_of marks).lowest ≡ counts.lowest
  pub lowest_commas : (levels_of marks).commas ≡ counts.lowest_commas
  pub lowest_values : (levels_of marks).values ≡ counts.lowest_values
