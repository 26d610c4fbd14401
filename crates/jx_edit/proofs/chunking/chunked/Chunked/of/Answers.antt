use Rattle.std.proofs.Common.{arith, length, subst, sym, ◌∙◌, List}
use Rattle.jx_edit.specs.inside.Chunks.{ChunkValue}
use Rattle.jx_edit.specs.inside.Links.{IsKept}
use Rattle.jx_edit.specs.inside.Sums.{AreSums}
use Rattle.jx_edit.proofs.Groups.{kept_same}
use Rattle.jx_edit.proofs.Links.{kept_fresh}
use Rattle.jx_edit.proofs.chunking.chunked.Chunked.of.Goals as goal

pub invariant_of-result : goal.invariant_of-result
invariant_of-result c =
    let made = c.in_ok-chunks.chunks.items in
    let sums = c.in_ok-sums.sums.items in
    let same = kept_same c.in_ok-chunks.chunks.len made c.deref_mut.result.now c.count_all.new.chunks c.deref_mut.ensures.value (omega (arith, c.deref_mut.ensures.len)) c.count_all.ensures in
    subst (λ (xs : List ChunkValue). IsKept c.args.depth (length c.args.bytes.now) xs sums) (sym same)
    (kept_fresh c.args.depth made sums c.args.bytes.now c.in_ok-chunks.ensures.fresh (subst (λ (xs : List ChunkValue). AreSums xs sums) (c.deref.ensures.value ∙ same) c.in_ok-sums.ensures)
    c.in_ok-chunks.ensures.bytes (omega arith))
