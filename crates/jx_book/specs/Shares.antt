-- The bytes that each `Share` has put and taken, and what an accumulator gives when it is finished.
use Rattle.std.specs.Prelude.{◌≡◌, ◌⊎◌, ℕ, ◌+◌, ◌<◌, ◌≤◌, List, length}
use Rattle.jx_book.specs.declared.stored.state.Put.{Put}
use Rattle.jx_book.specs.declared.stored.state.Put.TheVariants.{Stored, Touches, Overlaps, Full, Memory}
use Rattle.jx_book.specs.declared.lock.book.FinishFault.{FinishFault}
use Rattle.jx_book.specs.declared.lock.book.FinishFault.TheVariants.{Other}
use Rattle.jx_book.specs.Spans.{Touch}
use Rattle.jx_book.specs.Joined.{IsOtherRun}
use Rattle.jx_book.specs.Runs.{HeldValue, run_len}

-- the bytes put and taken
pub record ShareValue : Type 0 where
  pub put : ℕ
  pub taken : ℕ

abbrev pub share : ℕ → ℕ → ShareValue
share put taken = record { put = put; taken = taken }

-- the run that comes back is the one that was given, a neighbour touches it, and the share adds just what was put or taken
abbrev pub IsShared : {S : Type 0} → ShareValue → HeldValue S → Put S → ShareValue → Type 0
IsShared s run Stored t = t ≡ share (s.put + run_len run) s.taken
IsShared s run (Touches r n) t = (r ≡ run) × Touch n.span run.span × (n.span.start < n.span.end) × (t ≡ share s.put (s.taken + run_len n))
IsShared s run (Overlaps r) t = (r ≡ run) × (t ≡ s)
IsShared s run (Full r) t = (r ≡ run) × (t ≡ s)
IsShared s run (Memory r) t = (r ≡ run) × (t ≡ s)

abbrev pub IsOther : {S : Type 0} → List ℕ → ℕ → FinishFault S → Type 0
IsOther text depth (Other r) = IsOtherRun text depth r

-- the same, or a run that begins before an offset
abbrev pub IsOtherFrom : {S : Type 0} → List ℕ → ℕ → ℕ → FinishFault S → Type 0
IsOtherFrom text depth front (Other r) = IsOtherRun text depth r ⊎ (r.span.start < front)

-- the run is not empty, and no longer than the bytes put and not taken, as each stored run
abbrev pub IsSizedAsStored : {S : Type 0} → ℕ → ℕ → FinishFault S → Type 0
IsSizedAsStored put taken (Other r) = (r.span.start < r.span.end) × (run_len r + taken ≤ put)

-- a run of this text and depth
pub record IsOf {S : Type 0} (text : List ℕ) (depth : ℕ) (r : HeldValue S) : Type 0 where
  pub text_is : r.text ≡ text
  pub depth_is : r.depth ≡ depth
  pub within : r.span.end ≤ length text
