-- The last row of those so far whose span holds an offset.
use Rattle.std.proofs.Common.{◌≡◌, ℕ, ◌<◌, List, true, false}
use Rattle.std.specs.Prelude.{Option, None, Some}
use Rattle.jx_index.specs.declared.row.Row.{Row}
use Rattle.jx_serve.specs.Values.{holds_at}

abbrev pub IsLastBelow : List Row → ℕ → ℕ → Option ℕ → Type 0
IsLastBelow table offset n None = (k : ℕ) → k < n → holds_at table offset k ≡ false
IsLastBelow table offset n (Some m) = (m < n) × (holds_at table offset m ≡ true) × ((k : ℕ) → m < k → k < n → holds_at table offset k ≡ false)
