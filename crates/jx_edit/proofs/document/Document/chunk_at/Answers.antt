use Rattle.std.proofs.Common.{arith, ap, ◌∙◌, ◌+◌, length}
use Rattle.std.specs.List.{slice_range}
use Rattle.jx_edit.specs.Document.{DocumentValue}
use Rattle.jx_edit.proofs.Fronts.{front_long, piece_behind}
use Rattle.jx_edit.proofs.document.Document.chunk_at.Goals as goal

pub returns-clause-part : goal.returns-clause-part
returns-clause-part c =
    let out = c.chunk_at.result.now in
    piece_behind c.self.inside.front c.self.inside.rest.bytes out c.args.offset (length c.in_front-mark.result.now) c.self.invariant.short
    (ap length c.in_front-mark.ensures ∙ front_long c.self.inside.front c.self.invariant.short) (omega arith) c.chunk_at.ensures.part
    ∙ ap (λ (d : DocumentValue). slice_range d.bytes c.args.offset (c.args.offset + length out)) c.self.view_is
