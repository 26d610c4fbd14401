-- The numbers that a walk over the children of a node gives: from each child to the row after all that stands in it.
use Rattle.std.specs.Prelude.{ℕ, zero, suc, ◌-◌, ◌<◌, ◌≤◌, nat_lt, if◌then◌else◌, List, [], ◌∷◌, length, slice_index}

-- after a row stands a later one
abbrev pub IsForward : List ℕ → Type 0
IsForward after = (k : ℕ) → k < length after → k < slice_index after k

-- all that stands in a row is there
abbrev pub IsBounded : List ℕ → Type 0
IsBounded after = (k : ℕ) → k < length after → slice_index after k ≤ length after

-- from a number up to an end, in so many steps at most
abbrev pub walk : List ℕ → ℕ → ℕ → ℕ → List ℕ
walk after zero next end = []
walk after (suc steps) next end = if nat_lt next end then next ∷ walk after steps (slice_index after next) end else []

-- the rows from one up to another: no step is shorter than one
abbrev pub walk_to : List ℕ → ℕ → ℕ → List ℕ
walk_to after next end = walk after (end - next) next end

-- the children of a node
abbrev pub walk_children : List ℕ → ℕ → List ℕ
walk_children after node = walk_to after (suc node) (slice_index after node)
