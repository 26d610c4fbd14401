-- What was read so far stands in the front of the buffer.
use Rattle.std.proofs.Common.{◌≡◌, ◌-◌, ◌≤◌, false, take, vec_len}
use Rattle.jx_cmd_index.specs.Offsets.{StandThere}
use Rattle.jx_cmd_index.proofs.file_part.read_part.Given as goal

abbrev pub invariant-reads : goal.invariant-reads
invariant-reads g l = record {
  filled : l.filled ≤ l.len;
  long : vec_len l.buffer ≡ l.len;
  unfailed : g.F.ReadAt.has_failed l.file ≡ false;
  kept : g.F.ReadAt.content l.file ≡ g.F.ReadAt.content l.initial.file;
  there : StandThere (g.F.ReadAt.content l.initial.file) l.span.start (take l.filled l.buffer.items);
}

abbrev pub decreases-reads : goal.decreases-reads
decreases-reads g l = l.len - l.filled
