-- The chunks of a list, before a front is left out.
use Rattle.std.specs.Prelude.{ℕ, zero, suc, ◌+◌, ◌*◌, ◌<◌, ◌≤◌, ⊤, min, List, [], ◌∷◌, length, slice_index_or}
use Rattle.jx_summary.specs.declared.span.Span.{Span}
use Rattle.jx_claim.specs.declared.piece_list.PieceList.{PieceList}
use Rattle.jx_claim.specs.declared.piece_list.PieceList.TheVariants.{Every, At}
use Rattle.jx_claim.specs.Cut.{span}

-- so many chunks of `size` bytes from `start` on, none beyond `len`
abbrev pub regular : ℕ → ℕ → ℕ → ℕ → List Span
regular len size zero start = []
regular len size (suc n) start = span start (min (start + size) len) ∷ regular len size n (min (start + size) len)

-- chunks from `start` on that end at these offsets
abbrev pub between : ℕ → List ℕ → List Span
between start [] = []
between start (e ∷ es) = span start e ∷ between e es

abbrev pub listed : ℕ → PieceList → List Span
listed len (Every size count) = regular len size count 0
listed len (At ends) = between 0 ends.items

-- a count of regular chunks is the number of those that begin before `len`
abbrev pub IsRegular : ℕ → PieceList → Type 0
IsRegular len (Every size count) = (0 < size) × (len ≤ count * size) × (count * size < len + size)
IsRegular len (At ends) = ⊤

-- the first k chunks, and no others, end at an offset or before it
pub record AreEnded (n k : ℕ) (ps : List Span) : Type 0 where
  pub bound : k ≤ length ps
  pub before : (i : ℕ) (d : Span) → i < k → (slice_index_or ps i d).end ≤ n
  pub after : (i : ℕ) (d : Span) → k ≤ i → i < length ps → n < (slice_index_or ps i d).end
