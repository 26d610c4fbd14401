use Rattle.std.proofs.Common.{◌≡◌, ℕ, ◌<◌, get_or}
use Rattle.jx_index.proofs.name_keys.are_apart.Given as goal

-- no two so far are equal
abbrev pub invariant-loop-at : goal.invariant-loop-at
invariant-loop-at l = (i j : ℕ) → i < j → j < l.at → get_or l.keys i 0 ≡ get_or l.keys j 0 → ⊥
