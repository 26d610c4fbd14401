use Rattle.std.proofs.Common.{◌≡◌, ◌+◌, ◌*◌, true}
use Rattle.jx_edit.specs.inside.Sums.{size_before, AreLinkedFrom}
use Rattle.jx_edit.proofs.chunking.sums.sum_of.Given as goal

-- of the chunks of the group before this one
abbrev pub invariant-loop-place : goal.invariant-loop-place
invariant-loop-place l = record {
  long : size_before l.chunks l.place ≡ size_before l.chunks (l.group * 64) + l.bytes;
  on : l.linked ≡ true → AreLinkedFrom l.chunks (l.group * 64) l.place;
}
