-- The result of a join of two runs.
use Rattle.std.specs.Prelude.{◌≡◌, ◌≢◌, ◌⊎◌, ℕ, ◌-◌, ◌<◌, ◌≤◌, List, length, slice_range, if◌then◌else◌, nat_lt}
use Rattle.jx_book.specs.declared.stored.held.HeldFault.{HeldFault}
use Rattle.jx_book.specs.declared.stored.held.HeldFault.TheVariants.{Memory, Other}
use Rattle.jx_summary.specs.declared.span.Span.{Span}
use Rattle.jx_book.specs.Runs.{HeldValue, run_len}

-- t is the text of the longer side, or of the right one where both have the same length, and has the bytes of both sides
pub record IsCommon (l r : List ℕ) (span next : Span) (t : List ℕ) : Type 0 where
  pub text : t ≡ (if nat_lt (next.end - next.start) (span.end - span.start) then l else r)
  pub within : next.end ≤ length t
  pub left : slice_range l span.start span.end ≡ slice_range t span.start span.end
  pub right : slice_range r next.start next.end ≡ slice_range t next.start next.end

-- it covers both sides, and carries the text of the longer side, or of the right one where both have the same length
pub record IsJoin {S : Type 0} (l r h : HeldValue S) : Type 0 where
  pub span : h.span ≡ record { start = l.span.start; end = r.span.end }
  pub depth : (h.depth ≡ l.depth) × (h.depth ≡ r.depth)
  pub text : h.text ≡ (if nat_lt (run_len r) (run_len l) then l.text else r.text)

-- both sides come back; `Other` only where their texts or their depths differ
abbrev pub IsJoinFault : {S : Type 0} → HeldValue S → HeldValue S → HeldFault S → Type 0
IsJoinFault l r (Memory a b) = (a ≡ l) × (b ≡ r)
IsJoinFault l r (Other a b) = (a ≡ l) × (b ≡ r) × ((l.text ≢ r.text) ⊎ (l.depth ≢ r.depth))

-- a run of another depth, or whose bytes at its span differ in the two texts, or that doesn't lie in the text
abbrev pub IsOtherRun : {S : Type 0} → List ℕ → ℕ → HeldValue S → Type 0
IsOtherRun text depth r = (r.depth ≢ depth) ⊎ (length text < r.span.end) ⊎ (slice_range r.text r.span.start r.span.end ≢ slice_range text r.span.start r.span.end)
