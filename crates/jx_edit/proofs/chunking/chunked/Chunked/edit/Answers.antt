use Rattle.std.proofs.Common.{arith, ap, length, subst, ◌∙◌, List}
use Rattle.jx_edit.specs.inside.Chunks.{replaced, ChunkValue, ChunkedValue, IsMade}
use Rattle.jx_edit.specs.inside.Replacements.{all_of}
use Rattle.jx_edit.proofs.Groups.{kept_same}
use Rattle.jx_edit.proofs.Links.{kept_edited}
use Rattle.jx_edit.proofs.chunking.chunked.Chunked.edit.Goals as goal

pub invariant_of-self-2 : goal.invariant_of-self-2
invariant_of-self-2 c =
    kept_edited c.self.inside.chunks.items c.in_ok-patch.patch.chunks.items c.put.new.chunks.items c.put.new.sums.items c.self.inside.depth _ c.args.start c.args.end c.in_ok-patch.patch.first
    c.in_ok-patch.patch.last (all_of c.args.replacement) c.requires.order (omega (arith, c.requires.within, ap (λ (v : ChunkedValue). length v.bytes) c.self.view_is)) c.self.invariant.linked
    c.in_ok-patch.ensures.fresh
    (subst (λ (xs : List ChunkValue). IsMade c.args.start c.args.end (all_of c.args.replacement) xs c.in_ok-patch.patch.first c.in_ok-patch.patch.last c.in_ok-patch.patch.chunks.items)
    c.deref.ensures.value c.in_ok-patch.ensures.made)
    (c.in_ok-put.ensures.ok
    ∙ ap (λ (made : List ChunkValue). replaced c.in_ok-patch.patch.first c.in_ok-patch.patch.last made c.self.inside.chunks.items)
    (kept_same c.in_ok-patch.patch.chunks.len c.in_ok-patch.patch.chunks.items c.deref_mut.result.now c.count_all.new.chunks c.deref_mut.ensures.value
    (omega (arith, c.deref_mut.ensures.len)) c.count_all.ensures))
    c.in_ok-put.ensures.sums (omega (arith, c.self.invariant.long)) (omega arith)
