use Rattle.std.proofs.Common.{◌≡◌, ◌≤◌, ◌+◌, ◌++◌, length}
use Rattle.jx_edit.specs.inside.Chunks.{text_of, AreFresh}
use Rattle.jx_edit.specs.inside.Fills.{text_in}
use Rattle.jx_edit.proofs.chunking.filled.Filled.with.Given as goal

-- the chunks of the bytes before the rest
abbrev pub invariant-loop-alloc : goal.invariant-loop-alloc
invariant-loop-alloc l = record {
  fresh : AreFresh l.depth l.chunks.items;
  short : length l.begun.items ≤ l.size;
  text : text_of l.chunks.items ++ (l.begun.items ++ l.rest) ≡ text_in l.fn.self ++ l.fn.bytes;
}

abbrev pub decreases-loop-alloc : goal.decreases-loop-alloc
decreases-loop-alloc l = length l.begun.items + length l.rest
