-- The hand-over machine: each chunk is untaken, in one hand, or in one stored block.
use Rattle.std.specs.Prelude.{◌≡◌, ℕ, zero, suc, ◌+◌, Bool, true, false, List, [], ◌∷◌, sum_by, nat_lt, nat_le, ◌&&◌, if◌then◌else◌}
use mathlib.Core.Option.{some}
use lib.ListN.{get_elem?, set}
use Rattle.jx_summary.specs.declared.span.Span.{Span}
use Rattle.jx_claim.specs.Claimed.{times, once_below}
use Rattle.jx_claim.specs.Undrawn.{With, undrawn, Draws}
use Rattle.jx_book.specs.Spans.{span, Touch}

-- a step of a worker with this number
pub data Deed : Type 0 where
  draw : ℕ → Deed
  store : ℕ → Deed
  take_neighbour : ℕ → Deed
  stop : ℕ → Deed

-- the block that it has, none or one, and whether it has stopped; a block is neighbouring chunks, from `start` up to
-- `end`
pub record Worker : Type 0 where
  pub hand : List Span
  pub stopped : Bool

abbrev pub worker : List Span → Bool → Worker
worker hand stopped = record { hand = hand; stopped = stopped }

pub record Machine : Type 0 where
  pub undrawn : List ℕ
  pub workers : List Worker
  pub stored : List Span

abbrev pub machine : List ℕ → List Worker → List Span → Machine
machine u w s = record { undrawn = u; workers = w; stored = s }

abbrev pub NoneTouch : Span → List Span → Type 0
NoneTouch a [] = Unit {0}
NoneTouch a (b ∷ bs) = (¬ (Touch a b)) × NoneTouch a bs

-- two neighbours as one
abbrev pub joined : Span → Span → Span
joined a b = if nat_lt a.start b.start then span a.start b.end else span b.start a.end

-- a block that touches no stored one becomes stored; an accumulator's `put` does this to the spans of its runs
abbrev pub Stores : List Span → Span → List Span → Type 0
Stores old b new = NoneTouch b old × With b old new

-- a stored block n that touches b leaves the store; an accumulator's `put` does this to the spans of its runs
abbrev pub Takes : List Span → Span → Span → List Span → Type 0
Takes old b n new = With n new old × Touch n b

-- a step takes any untaken chunk; a `draw` of claims does this to the chunks that its word leaves untaken
abbrev pub Steps : Machine → Deed → Machine → Type 0
Steps s (draw w) t =
    (p : ℕ) × (less : List ℕ) × Draws s.undrawn p less × (get_elem? s.workers w ≡ some (worker [] false))
    × (t ≡ machine less (set s.workers w (worker (span p (suc p) ∷ []) false)) s.stored)
Steps s (store w) t =
    (b : Span) × (more : List Span) × (get_elem? s.workers w ≡ some (worker (b ∷ []) false)) × Stores s.stored b more
    × (t ≡ machine s.undrawn (set s.workers w (worker [] false)) more)
Steps s (take_neighbour w) t =
    (b n : Span) × (less : List Span) × (get_elem? s.workers w ≡ some (worker (b ∷ []) false)) × Takes s.stored b n less
    × (t ≡ machine s.undrawn (set s.workers w (worker (joined n b ∷ []) false)) less)
Steps s (stop w) t =
    (h : List Span) × (get_elem? s.workers w ≡ some (worker h false)) × (t ≡ machine s.undrawn (set s.workers w (worker h true)) s.stored)

-- the deeds lead from s to t, each possible where it is done
abbrev pub Leads : Machine → List Deed → Machine → Type 0
Leads s [] t = t ≡ s
Leads s (e ∷ es) t = (u : Machine) × Steps s e u × Leads u es t

abbrev pub idle : ℕ → List Worker
idle zero = []
idle (suc n) = worker [] false ∷ idle n

-- all chunks are untaken
abbrev pub start : ℕ → ℕ → Machine
start n workers = machine (undrawn 0 n) (idle workers) []

-- in how many places a chunk is
abbrev pub in_block : ℕ → Span → ℕ
in_block p b = if nat_le b.start p && nat_lt p b.end then 1 else 0

abbrev pub in_hands : ℕ → List Worker → ℕ
in_hands p ws = sum_by (λ w. sum_by (in_block p) w.hand) ws

abbrev pub places : Machine → ℕ → ℕ
places s p = times p s.undrawn + in_hands p s.workers + sum_by (in_block p) s.stored

abbrev pub NoTwoTouch : List Span → Type 0
NoTwoTouch [] = Unit {0}
NoTwoTouch (b ∷ bs) = NoneTouch b bs × NoTwoTouch bs

-- one block with all chunks, or none where there are no chunks
abbrev pub whole_of : ℕ → List Span
whole_of zero = []
whole_of (suc n) = span 0 (suc n) ∷ []

pub record IsSound (n : ℕ) (t : Machine) : Type 0 where
  -- each chunk is in exactly one place
  pub in_one_place : (p : ℕ) → places t p ≡ once_below p n
  pub apart : NoTwoTouch t.stored
  -- where all are taken and all hands are empty, one block holds all chunks
  pub whole : t.undrawn ≡ [] → ((p : ℕ) → in_hands p t.workers ≡ 0) → t.stored ≡ whole_of n

-- for every number of chunks and of workers, and every list of deeds
abbrev pub Core : Type 0
Core = (n workers : ℕ) (deeds : List Deed) (t : Machine) → Leads (start n workers) deeds t → IsSound n t
