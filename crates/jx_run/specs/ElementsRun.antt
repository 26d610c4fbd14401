-- A run over part of a JSON text sequence that keeps verdicts alone as contracts see it, and when a run is the summary
-- of bytes.
use Rattle.std.specs.Prelude.{◌≡◌, ℕ, Bool, List, Option}
use Rattle.jx_summary.specs.declared.span.Span.{Span}
use Rattle.jx_run.specs.declared.sequences.element_verdict.JudgedElement.{JudgedElement}
use Rattle.jx_run.specs.ElementVerdict.{IsJudgedElement}
use Rattle.jx_run.specs.OutcomeRun.{OutcomeRunValue, IsOutcomeRun, outcome_span}
use Rattle.jx_run.specs.Parted as parted
use Rattle.jx_run.specs.Unclosed.{ends_open}

-- a part of an element, or all of it: its outcomes, and whether its last byte is open
pub record PartRunValue : Type 0 where
  pub outcomes : OutcomeRunValue
  pub open_ended : Bool

pub record IsPartRun (bytes : List ℕ) (run : PartRunValue) : Type 0 where
  pub outcomes : IsOutcomeRun bytes run.outcomes
  pub open_ended : run.open_ended ≡ ends_open bytes

-- parts are such parts, and of a finished one the element is kept with what it leads to
abbrev pub MarkedElementsValue : Type 0
MarkedElementsValue = parted.MarkedValue PartRunValue JudgedElement

abbrev pub ElementsRunValue : Type 0
ElementsRunValue = parted.PartedValue PartRunValue JudgedElement

abbrev pub last_part : PartRunValue → Option MarkedElementsValue → PartRunValue
last_part = parted.last_piece

abbrev pub elements_span : ElementsRunValue → Span
elements_span = parted.parted_span (λ r. outcome_span r.outcomes)

abbrev pub judging : parted.Meaning PartRunValue JudgedElement
judging = parted.meaning (λ r. outcome_span r.outcomes) (λ r. r.outcomes.depth) (λ r bytes. IsPartRun bytes r) IsJudgedElement

abbrev pub IsElementsRun : List ℕ → ElementsRunValue → Type 0
IsElementsRun = parted.IsParted judging
