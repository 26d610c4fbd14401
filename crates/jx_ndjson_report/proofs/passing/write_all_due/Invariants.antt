-- What was read so far was taken, and what was due of it was written.
use Rattle.std.proofs.Common.{◌≡◌, false}
use Rattle.jx_ndjson_report.specs.inside.PassSteps.{IsPassed}
use Rattle.jx_ndjson_report.proofs.passing.write_all_due.Given as goal

abbrev pub invariant-loop : goal.invariant-loop
invariant-loop g l = record {
  reader : g.S.Source.has_failed l.reader ≡ false;
  writer : g.W.Sink.has_failed l.writer ≡ false;
  report : g.E.Sink.has_failed l.report ≡ false;
  written : IsPassed l.task (g.S.Source.remaining l.initial.reader) (g.S.Source.remaining l.reader) (g.W.Sink.contents l.initial.writer) (g.W.Sink.contents l.writer)
      (g.E.Sink.contents l.initial.report) (g.E.Sink.contents l.report) l.passer;
}
