-- What was read so far was taken, and what was due of it was written.
use Rattle.std.proofs.Common.{◌≡◌, false, true}
use Rattle.jx_drive_at.specs.inside.Rounds.{IsWrittenAt}
use Rattle.jx_drive_at.proofs.driver.report_rounds.Given as goal

abbrev pub invariant-loop : goal.invariant-loop
invariant-loop g l = record {
  next : (goal.iterator-loop g).can_next l.iterator';
  finite : (goal.iterator-loop g).is_finite l.iterator';
  writer : g.W.Sink.has_failed l.writer ≡ false;
  written : IsWrittenAt (g.T.Reporter.has_taken l.task l.initial.beside l.beside) g.T.Reporter.ready g.T.Reporter.told (g.F.SharedAt.content l.file) true (g.W.Sink.contents l.initial.writer)
      (g.W.Sink.contents l.writer) l.reporter;
}
