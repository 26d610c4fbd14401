-- The rule of the claim word, which holds the number that the next worker finds.
use Rattle.std.specs.Prelude.{◌≡◌, ◌⊎◌, ℕ, ◌+◌, ◌-◌, ◌<◌, ◌≤◌, List, [], ◌∷◌, ◌++◌, All, length, slice_index, sum_by}
use mathlib.Core.Option.{some}
use lib.ListN.{get_elem?}
use Rattle.atomic_table.specs.Table.{State, Me, Step}
use Rattle.jx_claim.specs.declared.rule.View.{View}
use Rattle.jx_claim.specs.declared.rule.Terms.{Terms}
use Rattle.jx_claim.specs.Claimed.{times, once_below}
use Rattle.jx_claim.specs.Undrawn.{undrawn, Draws}

-- a view from its parts: for how many worker handles it stands, the numbers got, and how often `None` was got
abbrev pub view : ℕ → List ℕ → ℕ → View
view seats got nones = record { seats = seats; got = got; nones = nones }

-- the view that two views together stand for
abbrev pub both : View → View → View
both v w = view (v.seats + w.seats) (v.got ++ w.got) (v.nones + w.nones)

-- a view that stands for no worker handle got nothing, and each worker handle that a view stands for got `None` once at
-- most
pub record Fits (v : View) : Type 0 where
  pub nones : v.nones ≤ v.seats
  pub idle : v.seats ≡ 0 → v.got ≡ []

-- the rule
pub record Dealt (k : Terms) (s : State (Unit {0}) View) : Type 0 where
  pub one_word : length s.words ≡ 1
  pub few : k.workers ≤ 64
  pub small : k.pieces < 4294967296
  -- so the word never wraps
  pub within : slice_index s.words 0 ≤ k.pieces + 64
  -- the views stand for all worker handles
  pub seats : sum_by (λ v. v.seats) s.views ≡ k.workers
  -- each chunk was got once or is untaken, not both, and nothing else was got
  pub got : (x : ℕ) → sum_by (λ v. times x v.got) s.views + times x (undrawn (slice_index s.words 0) k.pieces) ≡ once_below x k.pieces
  -- each step past the last chunk got `None`
  pub nones : sum_by (λ v. v.nones) s.views ≡ slice_index s.words 0 - k.pieces
  pub fits : (id : ℕ) (v : View) → get_elem? s.views id ≡ some v → Fits v

-- the view of a worker handle after a step that finds this word: the word is an untaken number, which the worker handle
-- gets and which is untaken no more; or nothing is untaken, and it gets `None`
abbrev pub IsDraw : ℕ → ℕ → View → View → Type 0
IsDraw pieces word v w =
    (Draws (undrawn word pieces) word (undrawn (word + 1) pieces) × (w ≡ view v.seats (v.got ++ word ∷ []) v.nones))
    ⊎ ((undrawn word pieces ≡ []) × (w ≡ view v.seats v.got (v.nones + 1)))

-- a step changes the view of the worker handle that takes, and no other; all that the worker handle got before is below
-- the word
abbrev pub DrawsFrom : ℕ → Step (Unit {0}) → Me (Unit {0}) View → ℕ → Me (Unit {0}) View → Type 0
DrawsFrom pieces st m word m' = All (λ n. n < word) m.0.got × IsDraw pieces word m.0 m'.0 × (m'.1 ≡ m.1)
