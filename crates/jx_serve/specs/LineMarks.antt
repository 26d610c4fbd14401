-- The diagnostics of the lines of a document that are not valid JSON.
use Rattle.std.specs.Prelude.{◌≡◌, ◌≤◌, ◌<◌, ◌+◌, ◌-◌, ◌&&◌, ◌||◌, ℕ, List, [], ◌∷◌, Bool, false, true, if◌then◌else◌, length, take}
use Rattle.std.specs.List.{AllZip}
use Rattle.jx_edit.specs.Positions.{position_at}
use Rattle.jx_edit.specs.declared.positions.encoding.Encoding.{Encoding}
use Rattle.jx_edit.specs.declared.positions.position.Position.{Position}
use Rattle.jx_ndjson.specs.Answers.{AreAnswers}
use Rattle.jx_ndjson.specs.Tally.{bad_of}
use Rattle.jx_ndjson.specs.declared.judged_line.JudgedLine.{JudgedLine}
use Rattle.jx_ndjson.specs.declared.judged_line.LineVerdict.{LineVerdict}
use Rattle.jx_ndjson.specs.declared.judged_line.LineVerdict.TheVariants as on_line
use Rattle.jx_run.specs.declared.texts.settings.Settings.{Settings}
use Rattle.jx_run.specs.declared.texts.verdict.Refusal.{Refusal}
use Rattle.jx_run.specs.declared.texts.verdict.Refusal.TheVariants.{Stopped, Truncated, TooDeep, RepeatedName}
use Rattle.jx_summary.specs.declared.span.Span.{Span}
use Rattle.jx_serve.specs.declared.line_mark.LineMark.{LineMark}
use Rattle.jx_serve.specs.declared.line_mark.LineMarks.{LineMarks}

-- ---- where

-- the offset at which a refusal of a line is shown: its own, and that of the line's last byte where more has to follow
abbrev pub fault_in : Span → Refusal → ℕ
fault_in span (Stopped at) = at
fault_in span Truncated = span.end - 1
fault_in span (TooDeep at) = at
fault_in span (RepeatedName at) = at

-- both ends of some bytes of the line, at most those of one character, with the byte at the offset among them
pub record IsAround (e : Encoding) (bytes : List ℕ) (span : Span) (offset : ℕ) (start end : Position) : Type 0 where
  pub from : ℕ
  pub to : ℕ
  pub begins : from ≤ offset
  pub holds : offset < span.end → (offset < to) × (to ≤ span.end)
  pub inside : span.start ≤ offset → span.start ≤ from
  pub short : to ≤ from + 4
  pub start_is : start ≡ position_at e bytes from
  pub end_is : end ≡ position_at e bytes to

-- both ends of the line
pub record IsWhole (e : Encoding) (bytes : List ℕ) (span : Span) (start end : Position) : Type 0 where
  pub start_is : start ≡ position_at e bytes span.start
  pub end_is : end ≡ position_at e bytes span.end

-- a line that is refused is shown at its fault, one that may be cut at its last byte, and another one as a whole
abbrev pub IsShownBy : Encoding → List ℕ → Span → LineVerdict → Position → Position → Type 0
IsShownBy e bytes span on_line.Accepted start end = IsWhole e bytes span start end
IsShownBy e bytes span (on_line.Refused refusal) start end = IsAround e bytes span (fault_in span refusal) start end
IsShownBy e bytes span on_line.MayBeCut start end = IsAround e bytes span (span.end - 1) start end
IsShownBy e bytes span on_line.Blank start end = IsWhole e bytes span start end

-- ---- which

-- the diagnostic of this line, at its place
pub record IsMarkOf (e : Encoding) (bytes : List ℕ) (line : JudgedLine) (mark : LineMark) : Type 0 where
  pub tells : mark.line ≡ line
  pub shown : IsShownBy e bytes line.span line.verdict mark.start mark.end

abbrev pub AreMarksOf : Encoding → List ℕ → List JudgedLine → List LineMark → Type 0
AreMarksOf e bytes lines marks = AllZip (IsMarkOf e bytes) lines marks

abbrev pub is_blank : LineVerdict → Bool
is_blank on_line.Accepted = false
is_blank (on_line.Refused refusal) = false
is_blank on_line.MayBeCut = false
is_blank on_line.Blank = true

-- without lines of white space alone after the first such line; or without all of them, where one came before
abbrev pub marked : Bool → List JudgedLine → List JudgedLine
marked seen [] = []
marked seen (line ∷ lines) =
    if seen && is_blank line.verdict then marked seen lines else (line ∷ marked (seen || is_blank line.verdict) lines)

-- at most so many are marked
abbrev pub most_marks : ℕ
most_marks = 1000

-- one for each of the first lines that are not valid JSON, in order, of those of white space alone for the first only; and how many more there are
pub record AreLineMarks (e : Encoding) (settings : Settings) (bytes : List ℕ) (marks : LineMarks) : Type 0 where
  pub answers : List JudgedLine
  pub are_answers : AreAnswers settings bytes answers
  pub are_marks : AreMarksOf e bytes (take most_marks (marked false (bad_of answers))) marks.marks.items
  pub more_are : marks.more ≡ length (bad_of answers) - length marks.marks.items
