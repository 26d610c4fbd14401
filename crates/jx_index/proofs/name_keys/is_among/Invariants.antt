use Rattle.std.proofs.Common.{◌≡◌, ℕ, ◌<◌, get_or}
use Rattle.jx_index.proofs.name_keys.is_among.Given as goal

-- none so far is the key
abbrev pub invariant-loop-at : goal.invariant-loop-at
invariant-loop-at l = (k : ℕ) → k < l.at → get_or l.keys k 0 ≡ l.key → ⊥
