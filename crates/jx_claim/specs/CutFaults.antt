-- When cuts are refused, and how.
use Rattle.std.specs.Prelude.{◌≡◌, ℕ, ◌-◌, ◌<◌, ◌≤◌, ◌⊎◌, List, length, slice_index}
use Rattle.jx_claim.specs.declared.cut_fault.CutFault.{CutFault}
use Rattle.jx_claim.specs.declared.cut_fault.CutFault.TheVariants.{Outside, NotRising, TooManyPieces, Memory}

-- the cut at this index is above 0 and below the length
abbrev pub IsInside : ℕ → List ℕ → ℕ → Type 0
IsInside len cuts i = (0 < slice_index cuts i) × (slice_index cuts i < len)

-- the cut at this index is above the one before it, if there is one
abbrev pub IsRising : List ℕ → ℕ → Type 0
IsRising cuts i = 0 < i → slice_index cuts (i - 1) < slice_index cuts i

-- the cuts before this index have no fault
abbrev pub AreSound : ℕ → List ℕ → ℕ → Type 0
AreSound len cuts n = (i : ℕ) → i < n → IsInside len cuts i × IsRising cuts i

-- the first fault of the cuts; without one, too many chunks; without these, out of memory
abbrev pub Refuses : ℕ → List ℕ → CutFault → Type 0
Refuses len cuts (Outside i) = (i < length cuts) × AreSound len cuts i × ((slice_index cuts i ≡ 0) ⊎ (len ≤ slice_index cuts i))
Refuses len cuts (NotRising i) = (i < length cuts) × AreSound len cuts i × IsInside len cuts i × (0 < i) × (slice_index cuts i ≤ slice_index cuts (i - 1))
Refuses len cuts TooManyPieces = AreSound len cuts (length cuts) × (4294967295 ≤ length cuts)
Refuses len cuts Memory = AreSound len cuts (length cuts) × (length cuts < 4294967295)
