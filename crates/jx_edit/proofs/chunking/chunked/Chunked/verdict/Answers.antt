use Rattle.std.proofs.Common.{arith, ap, ◌∙◌, map, List, ℕ}
use Rattle.jx_edit.specs.inside.Chunks.{bytes_of, text_of, ChunkedValue}
use Rattle.jx_edit.proofs.Links.{kept_written, text_map, written}
use Rattle.jx_edit.proofs.chunking.chunked.Chunked.verdict.Goals as goal

abbrev chunked_as : ℕ → List ℕ → ChunkedValue
chunked_as depth bytes = record { depth = depth; bytes = bytes }

pub invariant_of-self : goal.invariant_of-self
invariant_of-self c =
    kept_written c.self.inside.depth c.self.inside.len c.self.inside.chunks.len c.self.inside.sums.len c.self.inside.chunks.items c.deref_mut.result.now c.walk.new.chunks
    c.self.inside.sums.items c.deref_mut-2.result.now c.walk.new.sums c.self.invariant c.deref_mut.ensures.value
    (omega (arith, c.deref_mut.ensures.len)) c.deref_mut-2.ensures.value (omega (arith, c.deref_mut-2.ensures.len)) c.walk.ensures.linked c.walk.ensures.bytes c.walk.ensures.sums c.walk.ensures.count

pub returns-clause-same : goal.returns-clause-same
returns-clause-same c =
    ap (λ (t : List ℕ). chunked_as c.self.inside.depth t)
    (ap text_of (written c.self.inside.chunks.len c.self.inside.chunks.items c.deref_mut.result.now c.walk.new.chunks c.deref_mut.ensures.value (omega (arith, c.deref_mut.ensures.len)) c.walk.ensures.bytes)
    ∙ text_map c.walk.new.chunks c.self.inside.chunks.items (c.walk.ensures.bytes ∙ ap (map bytes_of) c.deref_mut.ensures.value))
    ∙ c.self.view_is
