-- What was read so far was taken, what was due of it was written, and fewer lines are bad.
use Rattle.std.proofs.Common.{◌≡◌, ◌<◌, false}
use Rattle.jx_ndjson_report.specs.inside.FirstSteps.{IsFirstWritten}
use Rattle.jx_ndjson_report.proofs.first_lines.write_first_due.Given as goal

abbrev pub invariant-loop : goal.invariant-loop
invariant-loop g l = record {
  reader : g.S.Source.has_failed l.reader ≡ false;
  writer : g.W.Sink.has_failed l.writer ≡ false;
  few : l.teller.bad < l.most;
  written : IsFirstWritten l.task l.most (g.S.Source.remaining l.initial.reader) (g.S.Source.remaining l.reader) (g.W.Sink.contents l.initial.writer) (g.W.Sink.contents l.writer) l.teller;
}
