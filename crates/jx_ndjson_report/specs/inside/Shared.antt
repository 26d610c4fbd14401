-- Lines of a batch that were judged before the batch is taken.
use Rattle.std.specs.Prelude.{◌≡◌, ◌≤◌, ℕ, List, length, slice_range}
use Rattle.jx_summary.specs.declared.span.Span.{Span}
use Rattle.jx_ndjson.specs.declared.judged_line.JudgedLine.{JudgedLine}
use Rattle.jx_ndjson.specs.WholeLines.{AreWhole, WholeLinesValue}

pub record SharedLinesValue : Type 0 where
  pub span : Span
  pub lines : WholeLinesValue

-- the bytes of the batch at the span are whole lines, and these are they
pub record IsShared (limit : ℕ) (batch : List ℕ) (s : SharedLinesValue) : Type 0 where
  pub ordered : s.span.start ≤ s.span.end
  pub within : s.span.end ≤ length batch
  pub lines : (answers : List JudgedLine) × AreWhole limit (slice_range batch s.span.start s.span.end) answers s.lines
  pub len : s.lines.len ≡ length (slice_range batch s.span.start s.span.end)
