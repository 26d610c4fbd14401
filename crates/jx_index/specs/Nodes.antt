-- The rows about a node, by its number.
use Rattle.std.specs.Prelude.{◌≡◌, ℕ, suc, ◌==◌, List, [], ◌∷◌, Option, None, Some, Bool, false, cond, slice_get}
use Rattle.jx_lex.specs.declared.kind.Kind.{Kind}
use Rattle.jx_lex.specs.declared.kind.Kind.TheVariants as kind
use Rattle.jx_summary.specs.declared.span.Span.{Span}
use Rattle.jx_index.specs.declared.row.Row.{Row}

abbrev pub kind_in : Option Row → Kind
kind_in None = kind.Null
kind_in (Some row) = row.kind

-- the kind of a row; a number that no row has counts as a scalar
abbrev pub kind_at : List Row → ℕ → Kind
kind_at rows node = kind_in (slice_get rows node)

abbrev pub IsObjectAt : List Row → ℕ → Type 0
IsObjectAt rows node = kind_at rows node ≡ kind.Object

abbrev pub IsArrayAt : List Row → ℕ → Type 0
IsArrayAt rows node = kind_at rows node ≡ kind.Array

abbrev pub name_in : Option Row → Option Span
name_in None = None
name_in (Some row) = row.name

abbrev pub name_at : List Row → ℕ → Option Span
name_at rows node = name_in (slice_get rows node)

abbrev pub is_parent : ℕ → Option ℕ → Bool
is_parent n None = false
is_parent n (Some parent) = parent == n

-- the numbers of the rows that have this parent, where the first row has a number
abbrev pub with_parent : ℕ → ℕ → List Row → List ℕ
with_parent n i [] = []
with_parent n i (row ∷ rows) = cond (is_parent n row.parent) (i ∷ with_parent n (suc i) rows) (with_parent n (suc i) rows)

-- the numbers of the rows whose parent is this one, in order
abbrev pub child_numbers : List Row → ℕ → List ℕ
child_numbers rows node = with_parent node 0 rows
