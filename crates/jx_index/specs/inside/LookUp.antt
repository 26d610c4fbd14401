-- How a member's name stands to the units that are looked for.
use Rattle.std.specs.Prelude.{◌≡◌, ℕ, ◌<◌, List, length, slice_index}
use Rattle.std.specs.Ordering.{nat_cmp, ordering_index}
use Rattle.std.specs.Cmp.Lexicographic.{slice_cmp}
use Rattle.jx_index.specs.declared.row.Row.{Row}
use Rattle.jx_index.specs.Names.{name_units}

-- 0 below the units, 1 equal to them, 2 above
abbrev pub rank_of : List ℕ → List Row → List ℕ → ℕ → ℕ
rank_of text rows units node = ordering_index (slice_cmp nat_cmp (name_units text rows node) units)

abbrev pub IsEqualAt : (ℕ → ℕ) → List ℕ → ℕ → Type 0
IsEqualAt rank names k = (k < length names) × (rank (slice_index names k) ≡ 1)
