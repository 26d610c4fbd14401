-- The work that a worker has done.
use Rattle.std.specs.Prelude.{◌≡◌, ℕ, ◌+◌, ◌<◌, ◌≤◌, List, [], ◌∷◌, ◌++◌, slice_index_or}
use Rattle.jx_summary.specs.declared.span.Span.{Span}
use Rattle.jx_claim.specs.Claimed.{SeatValue}
use Rattle.jx_claim.specs.Cut.{drawn_len, piece_len, span, no_span}
use Rattle.jx_book.specs.declared.workers.worker.Cause.{Cause}
use Rattle.jx_book.specs.declared.workers.worker.Cause.TheVariants.{Gate, Memory, Overlap, Other, Full}
use Rattle.jx_book.specs.declared.workers.worker.Hand.{Hand}
use Rattle.jx_book.specs.declared.workers.worker.Hand.TheVariants.{Nothing, Piece, One, Two}
use Rattle.jx_book.specs.Runs.{run_len}
use Rattle.jx_book.specs.Shares.{ShareValue}

-- the bytes in a hand
abbrev pub hand_len : {S : Type 0} → List Span → Hand S → ℕ
hand_len ps Nothing = 0
hand_len ps (Piece p) = piece_len ps p.0
hand_len ps (One r) = run_len r
hand_len ps (Two l r) = run_len l + run_len r

-- of `len` bytes all were put, but for what was taken, and but for what is left in the hand
abbrev pub HandedOver : ℕ → ShareValue → ShareValue → ℕ → Type 0
HandedOver len s t left = s.put + len + t.taken ≡ t.put + s.taken + left

-- the span has all of the other
abbrev pub Within : Span → Span → Type 0
Within a b = (b.start ≤ a.start) × (a.end ≤ b.end)

-- this number is the last of the list
abbrev pub EndsWith : List ℕ → ℕ → Type 0
EndsWith got p = (before : List ℕ) × (got ≡ before ++ p ∷ [])

-- where a run is in the hand, it has all of this span; two runs are neighbours, not empty, the left one first, and have it
-- together
abbrev pub HasSpan : {S : Type 0} → Span → Hand S → Type 0
HasSpan a Nothing = Unit {0}
HasSpan a (Piece p) = ⊥
HasSpan a (One r) = Within a r.span
HasSpan a (Two l r) = (l.span.end ≡ r.span.start) × (l.span.start < l.span.end) × (r.span.start < r.span.end) × Within a (span l.span.start r.span.end)

-- a chunk in the hand is the one that the worker handle got last, and runs in the hand have all of that chunk
abbrev pub IsLeft : {S : Type 0} → List Span → List ℕ → Hand S → Type 0
IsLeft ps got (Piece p) = EndsWith got p.0
IsLeft ps got hand = (p : ℕ) × EndsWith got p × HasSpan (slice_index_or ps p no_span) hand

-- the runs that may be in the hand where a worker stopped for this cause
abbrev pub MayLeave : {S : Type 0} → Cause → Hand S → Type 0
MayLeave Gate (One r) = ⊥
MayLeave Gate hand = Unit {0}
MayLeave Memory Nothing = ⊥
MayLeave Memory hand = Unit {0}
MayLeave Overlap (One r) = Unit {0}
MayLeave Other (Two l r) = Unit {0}
MayLeave Full (One r) = Unit {0}
MayLeave cause hand = ⊥

-- the worker handle is the same one and has got more numbers, or none, and the bytes of the chunks that it drew
-- meanwhile are what the share put meanwhile, minus what it took, plus what is left in the hand
pub record Worked (ps : List Span) (seat : SeatValue) (s : ShareValue) (now : SeatValue) (t : ShareValue) (left : ℕ) : Type 0 where
  pub id : now.id ≡ seat.id
  pub number : now.number ≡ seat.number
  pub grown : (more : List ℕ) × (now.got ≡ seat.got ++ more)
  pub bytes : drawn_len ps now.got + s.put + t.taken ≡ drawn_len ps seat.got + t.put + s.taken + left
