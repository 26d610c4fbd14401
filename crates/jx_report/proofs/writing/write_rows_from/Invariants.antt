-- The lines so far are put, and those of the rest are to come.
use Rattle.std.proofs.Common.{◌≡◌, ◌≤◌, ◌++◌, false, drop}
use Rattle.std.specs.Prelude.{vec_capacity}
use Rattle.jx_report.specs.RowWords.{row_lines}
use Rattle.jx_words.proofs.PutSteps.{IsPutUpTo}
use Rattle.jx_report.proofs.writing.write_rows_from.Given as goal

abbrev pub invariant-loop-number : goal.invariant-loop-number
invariant-loop-number g l = record {
  put : IsPutUpTo (g.W.Sink.contents l.initial.writer) (g.W.Sink.contents l.writer) l.out.items (row_lines l.number (drop l.number l.rows)) (l.initial.out.items ++ row_lines l.fn.first (drop l.fn.first l.rows));
  going : g.W.Sink.has_failed l.writer ≡ false;
  large : 156 ≤ vec_capacity l.out;
}
