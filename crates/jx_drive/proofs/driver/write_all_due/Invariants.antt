-- What was read so far was taken, and what was due of it was written.
use Rattle.std.proofs.Common.{◌≡◌, false}
use Rattle.jx_drive.specs.inside.Steps.{IsWritten}
use Rattle.jx_drive.proofs.driver.write_all_due.Given as goal

abbrev pub invariant-loop : goal.invariant-loop
invariant-loop g l = record {
  reader : g.S.Source.has_failed l.reader ≡ false;
  writer : g.W.Sink.has_failed l.writer ≡ false;
  written : IsWritten (g.T.Reporter.has_taken l.task l.initial.beside l.beside) g.T.Reporter.ready g.T.Reporter.told (g.S.Source.remaining l.initial.reader) (g.S.Source.remaining l.reader)
      (g.W.Sink.contents l.initial.writer) (g.W.Sink.contents l.writer) l.reporter;
}
