-- What was read so far, and the chunk that is held.
use Rattle.std.proofs.Common.{◌≡◌, ◌-◌, ◌<◌, ◌≤◌, false}
use Rattle.jx_cmd_index.specs.inside.HeldChunks.{IsHeldIn}
use Rattle.jx_cmd_index.specs.inside.Texts.{AreBytesIn}
use Rattle.jx_cmd_index.proofs.value_reading.read_value.Given as goal

abbrev pub invariant-chunks : goal.invariant-chunks
invariant-chunks g l = record {
  unfailed : g.F.ReadAt.has_failed l.file ≡ false;
  kept : g.F.ReadAt.content l.file ≡ g.F.ReadAt.content l.initial.file;
  held : IsHeldIn (g.F.ReadAt.content l.initial.file) l.index l.held;
  begun : l.fn.span.start ≤ l.at;
  reached : l.fn.span.start < l.at → l.at ≤ l.end;
  value : AreBytesIn (g.F.ReadAt.content l.initial.file) l.index l.fn.span.start l.at l.value.items;
}

abbrev pub decreases-chunks : goal.decreases-chunks
decreases-chunks g l = l.end - l.at
