use Rattle.std.proofs.Common.{◌≡◌, ◌+◌, ◌*◌, length, map, take}
use Rattle.jx_edit.specs.inside.Chunks.{bytes_of, text_of}
use Rattle.jx_edit.specs.inside.Links.{IsWalked}
use Rattle.jx_edit.specs.inside.Sums.{AreSums}
use Rattle.jx_edit.proofs.reading.walk.walk.Given as goal

-- the chunks of the groups before this one are read, and the bytes are the same
abbrev pub invariant-loop-group : goal.invariant-loop-group
invariant-loop-group l = record {
  walked : IsWalked l.depth l.start (l.group * 64) l.chunks;
  same : map bytes_of l.chunks ≡ map bytes_of l.initial.chunks;
  offset_is : l.offset ≡ l.start + length (text_of (take (l.group * 64) l.chunks));
  sums_are : AreSums l.chunks l.sums;
  count : length l.sums ≡ length l.initial.sums;
}
