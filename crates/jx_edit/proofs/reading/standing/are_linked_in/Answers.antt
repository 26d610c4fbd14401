use Rattle.std.proofs.Common.{arith, ap, sym, ◌∙◌, ◌*◌}
use Rattle.jx_edit.specs.inside.Chunks.{ChunkValue}
use Rattle.jx_edit.proofs.Groups.{linked_here, linked_more}
use Rattle.jx_edit.proofs.Stood.{linked_below, none_below}
use Rattle.jx_edit.proofs.reading.standing.are_linked_in.Goals as goal

pub loop-place-init : goal.loop-place-init
loop-place-init c = none_below c.args.chunks.now c.args.group c.args.count c.chunks_before-first.result c.chunks_before-first.ensures

pub loop-place-preserved : goal.loop-place-preserved
loop-place-preserved c =
    linked_more c.args.chunks.now (c.args.group * 64) c.loop-place.place c.loop-place.invariant
    (linked_here c.args.chunks.now c.loop-place.place c.index-chunks-place.result (omega arith) ∙ sym (ap (λ (x : ChunkValue). x.linked) c.index-chunks-place.is) ∙ sym c.is_linked.ensures
    ∙ c.if-not-is_linked.false)

pub returns : goal.returns
returns c = λ _. linked_below c.args.chunks.now c.args.group c.args.count c.loop-place.place (omega arith) c.loop-place.invariant
