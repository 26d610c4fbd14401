use Rattle.std.proofs.Common.{◌≡◌, ℕ, ◌<◌, get_or, map}
use Rattle.jx_names.specs.inside.ApartKeys.{key_of}
use Rattle.jx_names.proofs.key_pairs.has_key.Given as goal

-- none so far has the key
abbrev pub invariant-loop-at : goal.invariant-loop-at
invariant-loop-at l = (k : ℕ) → k < l.at → get_or (map key_of l.names) k 0 ≡ l.key → ⊥
