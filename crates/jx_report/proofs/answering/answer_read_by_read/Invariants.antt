-- What was read was taken in.
use Rattle.std.proofs.Common.{◌≡◌, ◌≤◌, false, vec_len}
use Rattle.jx_report.specs.inside.Batches.{IsTakenIn}
use Rattle.jx_report.proofs.answering.answer_read_by_read.Given as goal

abbrev pub invariant-loop : goal.invariant-loop
invariant-loop g l =
    record {
      some : 1 ≤ vec_len l.bytes;
      going : g.S.Source.has_failed l.reader ≡ false;
      taken : IsTakenIn l.command.task l.command.settings (g.S.Source.remaining l.fn.reader) (g.S.Source.remaining l.reader) l.reading;
    }
