-- Where chunks lead, one after another.
use Rattle.std.specs.Prelude.{◌≡◌, ◌<◌, ◌^◌, ℕ, zero, suc, List, [], ◌∷◌, true, length, take}
use Rattle.jx_run.specs.Reading.{stopped, too_deep, read_text}
use Rattle.jx_edit.specs.inside.Chunks.{ChunkValue, text_of}
use Rattle.jx_edit.specs.inside.Places.{PlaceValue, came_to, origin, read_on}
use Rattle.jx_edit.specs.inside.Sums.{AreLinkedFrom, AreSums}
use Rattle.jx_edit.specs.declared.chunking.sums.Sum.{Sum}
use Rattle.jx_edit.specs.declared.reading.walk.Step.{Step as TheStep}
use Rattle.jx_edit.specs.declared.reading.walk.Step.TheVariants as step

-- a chunk after a place: where it is linked, it leads from there to the place that it keeps
pub record IsLink (limit : ℕ) (p : PlaceValue) (c : ChunkValue) : Type 0 where
  pub depth : c.depth ≡ limit
  pub leads : c.linked ≡ true → read_on limit p c.bytes ≡ came_to c.to

-- so it is with each of them, the first after this place
abbrev pub AreLinked : ℕ → PlaceValue → List ChunkValue → Type 0
AreLinked limit p [] = Unit {0}
AreLinked limit p (c ∷ cs) = IsLink limit p c × AreLinked limit c.to cs

-- the place that the last one keeps
abbrev pub place_behind : PlaceValue → List ChunkValue → PlaceValue
place_behind p [] = p
place_behind p (c ∷ cs) = place_behind c.to cs

-- the bytes of the chunk after so many
abbrev pub bytes_at : List ChunkValue → ℕ → List ℕ
bytes_at [] k = []
bytes_at (c ∷ cs) zero = c.bytes
bytes_at (c ∷ cs) (suc k) = bytes_at cs k

-- the invariant of a text in chunks
pub record IsKept (depth len : ℕ) (chunks : List ChunkValue) (sums : List Sum) : Type 0 where
  pub linked : AreLinked depth origin chunks
  pub summed : AreSums chunks sums
  pub long : len ≡ length (text_of chunks)
  pub fits : len < 2 ^ 63

-- so many chunks are linked, and their text, which stands from an offset on, was read up to the place that the last of them keeps
pub record IsWalked (limit start count : ℕ) (chunks : List ChunkValue) : Type 0 where
  pub linked : AreLinked limit origin chunks
  pub on : AreLinkedFrom chunks 0 count
  pub reads : read_text limit start (text_of (take count chunks)) ≡ came_to (place_behind origin (take count chunks))

-- the step to which reading so many chunks led
abbrev pub IsReached : ℕ → ℕ → ℕ → List ChunkValue → TheStep → Type 0
IsReached limit start count chunks step.On = IsWalked limit start count chunks
IsReached limit start count chunks (step.Stopped at) = read_text limit start (text_of (take count chunks)) ≡ stopped at
IsReached limit start count chunks (step.TooDeep at) = read_text limit start (text_of (take count chunks)) ≡ too_deep at
