-- What was taken in and the batch that is held are all that was read.
use Rattle.std.proofs.Common.{◌≡◌, ◌≤◌, ◌<◌, false, take, vec_len}
use Rattle.std.specs.Io.KnownBytes.{IsAtEnd}
use Rattle.jx_report.specs.inside.Batches.{IsPending, IsReadingOf}
use Rattle.jx_report.proofs.answering.answer_in_batches.Given as goal

abbrev pub invariant-loop : goal.invariant-loop
invariant-loop g l =
    record {
      most : l.step ≤ l.batch;
      held : l.filled ≤ vec_len l.bytes;
      within : vec_len l.bytes ≤ l.step;
      room : vec_len l.next ≤ l.step;
      going : g.S.Source.has_failed l.reader ≡ false;
      end : l.filled < l.step → IsAtEnd (g.S.Source.remaining l.reader);
      pending : IsPending (λ text. IsReadingOf l.command.task l.command.settings text l.reading) (g.S.Source.remaining l.fn.reader) (g.S.Source.remaining l.reader) (take l.filled l.bytes.items);
    }
