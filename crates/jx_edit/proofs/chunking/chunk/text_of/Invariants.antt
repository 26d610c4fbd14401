use Rattle.std.proofs.Common.{◌≡◌, take}
use Rattle.jx_edit.specs.inside.Chunks.{text_of}
use Rattle.jx_edit.proofs.chunking.chunk.text_of.Given as goal

-- the bytes of the chunks before this one
abbrev pub invariant-loop-chunk : goal.invariant-loop-chunk
invariant-loop-chunk l = l.bytes.items ≡ text_of (take l.chunk-index l.chunks)
