-- The members of an object in the order of their names.
use Rattle.std.specs.Prelude.{ℕ, List, [], Option, None, Some, Bool, false}
use Rattle.std.specs.List.Sorted.{IsPermutation, IsSortedBy, IsStableBy}
use Rattle.std.specs.Ordering.{nat_cmp, is_lt, is_eq}
use Rattle.std.specs.Cmp.Lexicographic.{slice_cmp}
use Rattle.jx_summary.specs.declared.span.Span.{Span}
use Rattle.jx_index.specs.declared.row.Row.{Row}
use Rattle.jx_index.specs.Nodes.{name_at}
use Rattle.jx_index.specs.Units.{units_at}

-- the name's value equals some units
abbrev pub is_name : List ℕ → List ℕ → Option Span → Bool
is_name text units None = false
is_name text units (Some name) = is_eq (slice_cmp nat_cmp (units_at text name) units)

abbrev pub units_of_name : List ℕ → Option Span → List ℕ
units_of_name text None = []
units_of_name text (Some name) = units_at text name

-- the units of a member's name
abbrev pub name_units : List ℕ → List Row → ℕ → List ℕ
name_units text rows node = units_of_name text (name_at rows node)

-- the first different unit decides, and a beginning comes before what it begins
abbrev pub is_below : List ℕ → List Row → ℕ → ℕ → Bool
is_below text rows a b = is_lt (slice_cmp nat_cmp (name_units text rows a) (name_units text rows b))

-- the members, which are listed by place, each once, by rising names; equal names by place
pub record IsInNameOrder (text : List ℕ) (rows : List Row) (members names : List ℕ) : Type 0 where
  pub each_once : IsPermutation members names
  pub rising : IsSortedBy (is_below text rows) names
  pub equal_by_place : IsStableBy (is_below text rows) members names
