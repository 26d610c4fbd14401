-- The effect of the steps of answering on a sequence on the list of elements.
use Rattle.std.specs.Prelude.{◌≡◌, ℕ, ◌<◌, ◌≤◌, List, [], ◌∷◌, ◌++◌, length, nat_lt, if◌then◌else◌, slice_range, Some}
use Rattle.std.specs.List.{AllZip}
use Rattle.jx_summary.specs.declared.span.Span.{Span}
use Rattle.jx_run.specs.Elements.{Part, filled}
use Rattle.jx_run.specs.MarkAlone.{part_of}
use Rattle.jx_run.specs.SeqRun.{IsSummary}
use Rattle.jx_run.specs.Started.{StartedValue, IsStarted}
use Rattle.jx_run.specs.TextRun.{TextRunValue}
use Rattle.jx_answer.specs.declared.element.Element.{Element}
use Rattle.jx_answer.specs.declared.element.ElementAnswer.TheVariants as answer
use Rattle.jx_answer.specs.Sequence.{IsElement}

-- the reading of bytes of the input after a record separator
pub record IsReadable (input : List ℕ) (s : StartedValue) : Type 0 where
  pub marked : 0 < s.span.start
  pub ordered : s.span.start ≤ s.span.end
  pub within : s.span.end ≤ length input
  pub reading : IsStarted (slice_range input s.span.start s.span.end) s

-- the bytes before the first record separator, unless there are none
abbrev pub unmarked : Span → List Element
unmarked s = if nat_lt s.start s.end then record { span = s; answer = answer.Unmarked } ∷ [] else []

-- the element that a reading is of
abbrev pub IsOfReading : List ℕ → StartedValue → Element → Type 0
IsOfReading input s e = IsElement input s.depth (part_of input s.span) e

-- one element more for each reading
pub record PushesEach (input : List ℕ) (done : List StartedValue) (old new : List Element) : Type 0 where
  pub more : List Element
  pub new_is : new ≡ old ++ more
  pub each : AllZip (IsOfReading input) done more

-- one element more, unless it has no bytes
pub record PushesFilled (input : List ℕ) (limit : ℕ) (p : Part) (old new : List Element) : Type 0 where
  pub more : List Element
  pub new_is : new ≡ old ++ more
  pub each : AllZip (IsElement input limit) (filled (p ∷ [])) more

-- a run over the whole input shows this where that has record separators
pub record IsShown (input : List ℕ) (before : TextRunValue) (done : List StartedValue) (after : TextRunValue) : Type 0 where
  pub start : before.map.start ≡ 0
  pub end : after.map.end ≡ length input
  pub summary : IsSummary input before (Some (record { done = done; after = after }))
