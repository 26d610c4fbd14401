-- Lines after a name.
use Rattle.std.specs.Prelude.{ℕ, List, [], ◌∷◌, ◌++◌, ◌==◌, Bool, true, if◌then◌else◌}

-- these bytes, with this in front of each line; the first byte starts one where this says so, and so does each after a line feed
abbrev pub named_from : Bool → List ℕ → List ℕ → List ℕ
named_from starts front [] = []
named_from starts front (byte ∷ bytes) = (if starts then front else []) ++ byte ∷ named_from (byte == 10) front bytes

-- the lines, with this in front of each
abbrev pub named : List ℕ → List ℕ → List ℕ
named front lines = named_from true front lines
