use Rattle.std.proofs.Common.{ℕ, ◌<◌, map}
use Rattle.jx_names.specs.inside.ApartKeys.{key_of, IsNew}
use Rattle.jx_names.proofs.key_pairs.pairs_are_apart.Given as goal

-- each so far is new
abbrev pub invariant-names : goal.invariant-names
invariant-names l = (j : ℕ) → j < l.at → IsNew (map key_of l.names) j
