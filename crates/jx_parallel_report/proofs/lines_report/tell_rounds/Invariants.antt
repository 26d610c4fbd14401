-- What was read so far was told, nothing waits, and the next round has no more chunks than one may have.
use Rattle.std.proofs.Common.{◌≡◌, ◌<◌, ◌≤◌, [], false, length}
use Rattle.jx_parallel_report.specs.inside.Lines.{IsTold}
use Rattle.jx_parallel_report.proofs.lines_report.tell_rounds.Given as goal

abbrev pub invariant-loop : goal.invariant-loop
invariant-loop g l = record {
  next : (goal.iterator-loop g).can_next l.iterator';
  finite : (goal.iterator-loop g).is_finite l.iterator';
  room : 0 < length l.buffer;
  round : l.count ≤ 64;
  writer : g.W.Sink.has_failed l.writer ≡ false;
  none_wait : l.reader.tally.waiting ≡ [];
  told : IsTold g.K.Asked.settings g.K.Asked.told l.rule (g.F.SharedAt.content l.file) (g.W.Sink.contents l.initial.writer) (g.W.Sink.contents l.writer) l.reader.tally;
}
