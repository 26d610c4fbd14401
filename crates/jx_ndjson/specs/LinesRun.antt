-- The run over a part of an input of lines as contracts see it.
use Rattle.std.specs.Prelude.{◌≡◌, ℕ, ◌+◌, List, Option, None, Some}
use Rattle.jx_summary.specs.declared.span.Span.{Span}
use Rattle.jx_ndjson.specs.declared.judged_line.JudgedLine.{JudgedLine}
use Rattle.jx_ndjson.specs.WholeLines.{AreWhole, WholeLinesValue}

pub record LinesRunValue : Type 0 where
  pub span : Span
  pub depth : ℕ
  -- none where the bytes were not read as whole lines
  pub lines : Option WholeLinesValue

-- where there are lines, the bytes are those lines
abbrev pub HoldLines : ℕ → List ℕ → Option WholeLinesValue → Type 0
HoldLines limit bytes None = Unit {0}
HoldLines limit bytes (Some v) = (answers : List JudgedLine) × AreWhole limit bytes answers v

abbrev pub IsLinesRun : List ℕ → LinesRunValue → Type 0
IsLinesRun bytes r = HoldLines r.depth bytes r.lines

-- where there are lines, they have all bytes of the span
abbrev pub FillSpan : Span → Option WholeLinesValue → Type 0
FillSpan span None = Unit {0}
FillSpan span (Some v) = span.start + v.len ≡ span.end
