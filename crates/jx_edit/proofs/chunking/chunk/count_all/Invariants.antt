use Rattle.std.proofs.Common.{◌≡◌}
use Rattle.jx_edit.proofs.chunking.chunk.count_all.Given as goal

abbrev pub invariant-loop-chunk : goal.invariant-loop-chunk
invariant-loop-chunk l = l.chunks ≡ l.fn.chunks
