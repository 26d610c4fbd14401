-- A text sequence that is read part by part, cut at some of its record separators.
use Rattle.std.specs.Prelude.{◌≡◌, ◌==◌, ℕ, List, [], ◌∷◌, ◌++◌, Bool, Option, Some, None, if◌then◌else◌}
use Rattle.std.specs.List.{AllZip}
use Rattle.jx_summary.specs.declared.span.Span.{Span}
use Rattle.jx_run.specs.declared.sequences.element_verdict.ElementVerdict.TheVariants as element
use Rattle.jx_run.specs.declared.sequences.element_verdict.JudgedElement.{JudgedElement}
use Rattle.jx_run.specs.declared.texts.settings.FrontMark.TheVariants as on_mark
use Rattle.jx_run.specs.declared.texts.verdict.Verdict.{Verdict}
use Rattle.jx_run.specs.Elements.{Part, before_separator, parts, filled}
use Rattle.jx_run.specs.ElementVerdict.{IsJudgedElement, told}
use Rattle.jx_run.specs.Reader.{ReaderValue, HasRead}
use Rattle.jx_run.specs.Unclosed.{ends_open}

-- no byte is a separator
abbrev pub HasNoSeparator : List ℕ → Type 0
HasNoSeparator bytes = before_separator bytes ≡ bytes

-- nothing is before the first separator
abbrev pub StartsWithSeparator : List ℕ → Type 0
StartsWithSeparator bytes = before_separator bytes ≡ []

-- the last byte is a separator
abbrev pub EndsWithSeparator : List ℕ → Type 0
EndsWithSeparator bytes = (front : List ℕ) × (bytes ≡ front ++ 30 ∷ [])

-- the outcome of these bytes of a sequence: each element that a separator ends; of the one that goes on, what a reader
-- has read and whether its last byte is open
pub record AreRead (limit : ℕ) (bytes : List ℕ) (judged : List JudgedElement) (reader : ReaderValue) (open_ended : Bool) : Type 0 where
  pub ended : List Part
  pub last : Part
  pub parts : parts 0 bytes ≡ ended ++ last ∷ []
  pub done : AllZip (IsJudgedElement limit) (filled ended) judged
  pub depth : reader.settings.depth ≡ limit
  pub mark : reader.settings.mark ≡ on_mark.Refused
  pub start : reader.start ≡ last.at
  pub read : HasRead last.bytes reader
  pub opens : open_ended ≡ ends_open last.bytes

-- the element that has this span, unless it is empty; what stands at the start has no separator before it
abbrev pub ended_there : Span → Verdict → Bool → Option JudgedElement
ended_there s verdict open_ended =
    if s.start == s.end then None else
    if s.start == 0 then Some (record { span = s; verdict = element.Unmarked })
    else Some (record { span = s; verdict = told verdict open_ended })

abbrev pub listed : Option JudgedElement → List JudgedElement
listed None = []
listed (Some e) = e ∷ []
