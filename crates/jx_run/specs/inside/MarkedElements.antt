-- The elements of a run that keeps verdicts alone, from its first separator on.
use Rattle.std.specs.Prelude.{ℕ, List, Option}
use Rattle.jx_run.specs.Elements.{Part}
use Rattle.jx_run.specs.ElementsRun.{PartRunValue, MarkedElementsValue, judging}
use Rattle.jx_run.specs.Parted as parted

-- each part between two neighbouring separators that is not empty is judged, in order; the last part goes on to the end
abbrev pub AreMarked : ℕ → List Part → MarkedElementsValue → Type 0
AreMarked = parted.IsMarked judging

-- the part before the first separator, and the elements from there on, are those of the bytes
abbrev pub IsSummaryOf : List ℕ → PartRunValue → Option MarkedElementsValue → Type 0
IsSummaryOf = parted.IsSummary judging
