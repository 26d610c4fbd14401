use Rattle.std.proofs.Common.{ap, ◌∙◌, ◌++◌, List}
use Rattle.std.specs.List.{concat}
use Rattle.jx_edit.specs.inside.Chunks.{text_of, ChunkValue, ChunkedValue}
use Rattle.jx_edit.proofs.Texts.{pieces_are}
use Rattle.jx_edit.proofs.chunking.chunked.Chunked.chunks_behind.Goals as goal

pub returns : goal.returns
returns c =
    ap concat c.of.ensures
    ∙ pieces_are c.args.front.now c.deref.result.now
    ∙ ap (λ (cs : List ChunkValue). c.args.front.now ++ text_of cs) c.deref.ensures.value
    ∙ ap (λ (v : ChunkedValue). c.args.front.now ++ v.bytes) c.self.view_is
