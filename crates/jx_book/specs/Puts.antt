-- The effect of a put on a state.
use Rattle.std.specs.Prelude.{◌≡◌, ℕ, ◌+◌, ◌<◌, ◌≤◌, ◌^◌, ◌⊎◌, List, length, insert, remove, All, Any, Some, slice_get, slice_index_or}
use Rattle.jx_summary.specs.declared.span.Span.{Span}
use Rattle.jx_book.specs.declared.stored.state.Put.{Put}
use Rattle.jx_book.specs.declared.stored.state.Put.TheVariants.{Stored, Touches, Overlaps, Full, Memory}
use Rattle.jx_book.specs.declared.stored.state.Position.{Position}
use Rattle.jx_book.specs.declared.stored.state.Position.TheVariants.{Overlapping, Left, Right, Free}
use Rattle.jx_book.specs.Spans.{Overlap, Before}
use Rattle.jx_book.specs.HandOver.{Stores, Takes}
use Rattle.jx_book.specs.Runs.{HeldValue, StateValue, state, run_len, spans_of}

module _ {S : Type 0} where
  abbrev pub NoOverlap : List (HeldValue S) → Span → Type 0
  NoOverlap runs a = All (λ r. ¬ (Overlap r.span a)) runs

  -- no run touches it on the left
  abbrev pub NoLeft : List (HeldValue S) → Span → Type 0
  NoLeft runs a = All (λ r. ¬ (r.span.end ≡ a.start)) runs

  -- the run at k is the neighbour that is taken out, the left one if both sides touch
  abbrev pub IsNeighbour : List (HeldValue S) → Span → ℕ → HeldValue S → Type 0
  IsNeighbour runs a k n = (slice_get runs k ≡ Some n) × ((n.span.end ≡ a.start) ⊎ ((n.span.start ≡ a.end) × NoLeft runs a))

  -- it neither overlaps nor touches a run, and is before the run at k
  pub record IsFree (runs : List (HeldValue S)) (a : Span) (k : ℕ) : Type 0 where
    pub bound : k ≤ length runs
    pub below : (i : ℕ) (d : HeldValue S) → i < k → Before (slice_index_or runs i d).span a
    pub above : (i : ℕ) (d : HeldValue S) → k ≤ i → i < length runs → Before a (slice_index_or runs i d).span

  -- where a run belongs: it overlaps one, it touches the one at k, or it is free to stand at k
  abbrev pub IsPosition : List (HeldValue S) → Span → Position → Type 0
  IsPosition runs a Overlapping = Any (λ r. Overlap r.span a) runs
  IsPosition runs a (Left k) = (k < length runs) × NoOverlap runs a × ((d : HeldValue S) → (slice_index_or runs k d).span.end ≡ a.start)
  IsPosition runs a (Right k) = (k < length runs) × NoOverlap runs a × NoLeft runs a × ((d : HeldValue S) → (slice_index_or runs k d).span.start ≡ a.end)
  IsPosition runs a (Free k) = IsFree runs a k

  -- the run is free and stands at k now; only the bytes put have grown
  pub record IsStored (s : StateValue S) (run : HeldValue S) (t : StateValue S) : Type 0 where
    pub stores : Stores (spans_of s.runs) run.span (spans_of t.runs)
    pub inserted : (k : ℕ) × IsFree s.runs run.span k × (t ≡ state (insert s.runs k run) (s.put + run_len run) s.taken)

  -- a neighbour of the run was taken out, and no run overlaps that; only the bytes taken have grown
  pub record IsTaken (s : StateValue S) (run n : HeldValue S) (t : StateValue S) : Type 0 where
    pub takes : Takes (spans_of s.runs) run.span n.span (spans_of t.runs)
    pub filled : n.span.start < n.span.end
    pub no_overlap : NoOverlap s.runs run.span
    pub removed : (k : ℕ) × IsNeighbour s.runs run.span k n × (t ≡ state (remove s.runs k) s.put (s.taken + run_len n))

  -- a total would pass the greatest `u128`: the bytes put, where the run is free, or the bytes taken, where it touches
  abbrev pub IsOverfull : StateValue S → HeldValue S → Type 0
  IsOverfull s run =
      ((k : ℕ) × IsFree s.runs run.span k × (2 ^ 128 ≤ s.put + run_len run))
      ⊎ ((k : ℕ) × (n : HeldValue S) × IsNeighbour s.runs run.span k n × NoOverlap s.runs run.span × (2 ^ 128 ≤ s.taken + run_len n))

  -- the answers, and the state after each
  abbrev pub IsPut : StateValue S → HeldValue S → Put S → StateValue S → Type 0
  IsPut s run Stored t = IsStored s run t
  IsPut s run (Touches r n) t = (r ≡ run) × IsTaken s run n t
  IsPut s run (Overlaps r) t = (r ≡ run) × Any (λ x. Overlap x.span run.span) s.runs × (t ≡ s)
  IsPut s run (Full r) t = (r ≡ run) × IsOverfull s run × (t ≡ s)
  IsPut s run (Memory r) t = (r ≡ run) × ((k : ℕ) × IsFree s.runs run.span k) × (s.put + run_len run < 2 ^ 128) × (t ≡ s)
