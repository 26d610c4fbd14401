-- Whole lines of an input, judged without what is before them.
use Rattle.std.specs.Prelude.{◌≡◌, ℕ, List, [], ◌∷◌, ◌++◌, length}
use Rattle.std.specs.List.{AllZip}
use Rattle.jx_run.specs.declared.texts.settings.FrontMark.TheVariants as on_mark
use Rattle.jx_run.specs.declared.texts.settings.NameRule.TheVariants.{Any}
use Rattle.jx_run.specs.declared.texts.settings.Settings.{Settings}
use Rattle.jx_run.specs.declared.texts.verdict.Refusal.{Refusal}
use Rattle.jx_run.specs.declared.texts.verdict.Refusal.TheVariants.{Stopped, Truncated, TooDeep, RepeatedName}
use Rattle.jx_run.specs.Elements.{Part, part}
use Rattle.jx_run.specs.ReaderInside.{offset_at}
use Rattle.jx_run.specs.Tree.{span}
use Rattle.jx_ndjson.specs.declared.judged_line.JudgedLine.{JudgedLine}
use Rattle.jx_ndjson.specs.declared.judged_line.LineVerdict.{LineVerdict}
use Rattle.jx_ndjson.specs.declared.judged_line.LineVerdict.TheVariants as on_line
use Rattle.jx_ndjson.specs.Answers.{IsAnswer}
use Rattle.jx_ndjson.specs.Lines.{is_line_feed}
use Rattle.jx_ndjson.specs.Parts.{parts_by}
use Rattle.jx_ndjson.specs.Reading.{ended_from}
use Rattle.jx_ndjson.specs.Tally.{bad_of}

-- read within a depth, and no byte order mark is ignored
abbrev pub unmarked : ℕ → Settings
unmarked limit = record { depth = limit; mark = on_mark.Refused; names = Any }

pub record WholeLinesValue : Type 0 where
  -- how many bytes and how many lines there are
  pub len : ℕ
  pub count : ℕ
  -- those that are not valid JSON; offsets count from the first byte, and numbers from 1
  pub bad : List JudgedLine

-- a line feed ends the last line, and these are the answers on all lines, the first one at the offset 0
pub record AreWhole (limit : ℕ) (bytes : List ℕ) (answers : List JudgedLine) (v : WholeLinesValue) : Type 0 where
  pub ended : List Part
  pub parts : parts_by is_line_feed 0 bytes ≡ ended ++ part (length bytes) [] ∷ []
  pub are_answers : AllZip (IsAnswer (unmarked limit)) (ended_from 1 ended) answers
  pub len_is : v.len ≡ length bytes
  pub count_is : v.count ≡ length answers
  pub bad_are : v.bad ≡ bad_of answers

-- ---- lines after others: so many bytes and so many lines further on

abbrev pub moved_refusal : ℕ → Refusal → Refusal
moved_refusal by (Stopped at) = Stopped (offset_at by at)
moved_refusal by Truncated = Truncated
moved_refusal by (TooDeep at) = TooDeep (offset_at by at)
moved_refusal by (RepeatedName at) = RepeatedName (offset_at by at)

abbrev pub moved_verdict : ℕ → LineVerdict → LineVerdict
moved_verdict by on_line.Accepted = on_line.Accepted
moved_verdict by (on_line.Refused refusal) = on_line.Refused (moved_refusal by refusal)
moved_verdict by on_line.MayBeCut = on_line.MayBeCut
moved_verdict by on_line.Blank = on_line.Blank

abbrev pub moved_line : ℕ → ℕ → JudgedLine → JudgedLine
moved_line lines by j =
    record { number = offset_at lines j.number; span = span (offset_at by j.span.start) (offset_at by j.span.end); verdict = moved_verdict by j.verdict }
