-- The look-up over rows.
use Rattle.std.specs.Prelude.{ℕ, suc, List, [], ◌∷◌, Bool, Result, Ok}
use Rattle.std.specs.Ordering.{nat_cmp, is_eq}
use Rattle.std.specs.Cmp.Lexicographic.{slice_cmp}
use Rattle.jx_index.specs.declared.find_fault.FindFault.{FindFault}
use Rattle.jx_index.specs.declared.row.Row.{Row}
use Rattle.jx_index.specs.Names.{name_units}
use Rattle.jx_index.specs.Nodes.{kind_at, child_numbers}
use Rattle.jx_index.specs.Leads.{one_token, and_then}

-- the member's name has these units
abbrev pub is_equal : List ℕ → List Row → List ℕ → ℕ → Bool
is_equal text rows units node = is_eq (slice_cmp nat_cmp (name_units text rows node) units)

-- one step from a row
abbrev pub row_token : List ℕ → List Row → List ℕ → ℕ → ℕ → Result ℕ FindFault
row_token text rows token node k = one_token (is_equal text rows token) token (kind_at rows node) (child_numbers rows node) k

unfoldable pub rows_lead : List ℕ → List Row → List (List ℕ) → ℕ → ℕ → Result ℕ FindFault
rows_lead text rows [] node k = Ok node
rows_lead text rows (token ∷ tokens) node k = and_then (row_token text rows token node k) (λ n. rows_lead text rows tokens n (suc k))
