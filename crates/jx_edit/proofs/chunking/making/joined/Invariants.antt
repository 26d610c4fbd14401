use Rattle.std.proofs.Common.{◌≡◌, ◌≤◌, ◌<◌, All, length, take, vec_len}
use Rattle.std.specs.Prelude.{IfOk}
use Rattle.jx_edit.specs.inside.Chunks.{text_of, AreFresh}
use Rattle.jx_edit.specs.inside.Parts.{IsMadePart}
use Rattle.jx_edit.proofs.chunking.making.joined.Given as goal

-- the chunks of the bytes up to here
abbrev pub invariant-loop-part : goal.invariant-loop-part
invariant-loop-part l = record {
  size : 0 < l.size;
  within : l.done ≤ length l.bytes;
  fresh : AreFresh l.depth l.chunks.items;
  text : text_of l.chunks.items ≡ take l.done l.bytes;
  made : All (λ r. IfOk r (IsMadePart l.bytes l.depth)) l.made.items;
}

abbrev pub decreases-loop-part : goal.decreases-loop-part
decreases-loop-part l = vec_len l.made
