use Rattle.std.proofs.Common.{ℕ, ◌<◌, get_or, map}
use Rattle.jx_names.specs.inside.ApartKeys.{IsNew, StandsIn, key_of}
use Rattle.jx_names.proofs.key_table.are_put.Given as goal

-- each so far is new, and stands in the table
abbrev pub invariant-names : goal.invariant-names
invariant-names l = ((j : ℕ) → j < l.at → IsNew (map key_of l.names) j) × ((k : ℕ) → k < l.at → StandsIn l.table l.shift (get_or (map key_of l.names) k 0))
