use Rattle.std.proofs.Common.{◌≡◌, ◌+◌, length, map, take}
use Rattle.jx_edit.specs.inside.Chunks.{bytes_of, text_of}
use Rattle.jx_edit.specs.inside.Links.{IsWalked}
use Rattle.jx_edit.specs.inside.Sums.{AreSums}
use Rattle.jx_edit.proofs.reading.walk.walk_group.Given as goal

-- the chunks before this one are read, and the bytes are the same
abbrev pub invariant-loop-number : goal.invariant-loop-number
invariant-loop-number l = record {
  walked : IsWalked l.depth l.start l.number l.chunks;
  same : map bytes_of l.chunks ≡ map bytes_of l.initial.chunks;
  offset_is : l.offset ≡ l.start + length (text_of (take l.number l.chunks));
  sums_are : AreSums l.chunks l.sums;
  count : length l.sums ≡ length l.initial.sums;
}
