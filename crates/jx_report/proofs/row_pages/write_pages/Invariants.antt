-- The lines up to the next row are written.
use Rattle.std.proofs.Common.{◌≡◌, false}
use Rattle.jx_report.specs.inside.Pages.{AreWritten}
use Rattle.jx_report.proofs.row_pages.write_pages.Given as goal

abbrev pub invariant-loop-page : goal.invariant-loop-page
invariant-loop-page g l = record {
  wrote : AreWritten l.rows (g.W.Sink.contents l.initial.writer) (g.W.Sink.contents l.writer) l.fn.from l.next;
  going : g.W.Sink.has_failed l.writer ≡ false;
}
