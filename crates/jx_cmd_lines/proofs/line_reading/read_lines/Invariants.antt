-- What was read so far was taken in.
use Rattle.std.proofs.Common.{◌≡◌, ◌≤◌, false, vec_len}
use Rattle.jx_cmd_lines.specs.inside.Reading.{HasFedOn}
use Rattle.jx_cmd_lines.proofs.line_reading.read_lines.Given as goal

abbrev pub invariant-batches : goal.invariant-batches
invariant-batches g l = record {
  within : vec_len l.buffer ≤ l.batch;
  reader : g.S.Source.has_failed l.reader ≡ false;
  read : HasFedOn l.fn.chunk (g.S.Source.remaining l.fn.reader) (g.S.Source.remaining l.reader) l.indexer;
}
