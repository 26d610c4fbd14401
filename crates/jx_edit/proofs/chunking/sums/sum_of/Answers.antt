use Rattle.std.proofs.Common.{arith, ap, refl, subst, sym, ◌∙◌, ◌+◌, ◌*◌, length, List, ℕ}
use Rattle.std.specs.Prelude.{IfSome}
use Rattle.jx_edit.specs.inside.Chunks.{ChunkValue}
use Rattle.jx_edit.specs.inside.Moves.{AreMoves}
use Rattle.jx_edit.specs.inside.Sums.{size_before}
use Rattle.jx_edit.proofs.Groups.{both_linked, group_is, linked_here, size_group, sum_all}
use Rattle.jx_edit.proofs.Texts.{next_fits, next_is, text_within}
use Rattle.jx_edit.proofs.chunking.sums.sum_of.Goals as goal

pub overflow_add-bytes : goal.overflow_add-bytes
overflow_add-bytes c =
    omega (
      arith,
      next_fits c.args.chunks.now c.loop-place.place (size_before c.args.chunks.now c.loop-place.place) c.index-chunks-place.result c.bytes.result.now (omega arith) c.index-chunks-place.is c.bytes.ensures
          refl (omega arith),
      c.loop-place.invariant.long,
    )

pub loop-place-preserved : goal.loop-place-preserved
loop-place-preserved c = record {
  long =
      omega (
        arith,
        next_is c.args.chunks.now c.loop-place.place (size_before c.args.chunks.now c.loop-place.place) c.index-chunks-place.result c.bytes.result.now (omega arith) c.index-chunks-place.is
            c.bytes.ensures refl,
        c.loop-place.invariant.long,
      );
  on =
      both_linked c.args.chunks.now (c.args.group * 64) c.loop-place.place c.loop-place.linked c.is_linked-linked.result c.loop-place.invariant.on
      (c.is_linked-linked.ensures ∙ ap (λ (x : ChunkValue). x.linked) c.index-chunks-place.is ∙ sym (linked_here c.args.chunks.now c.loop-place.place c.index-chunks-place.result (omega arith)));
}

pub moves_of-moves-requires : goal.moves_of-moves-requires
moves_of-moves-requires c =
    let cs = c.args.chunks.now in
    let g = c.args.group in
    omega (
      arith,
      ap length (group_is cs g c.chunks_before-first.result c.min-end.result c.chunks_before-first.ensures (omega arith)),
      size_group cs g,
      text_within cs ((g + 1) * 64),
    )

pub returns : goal.returns
returns c =
    let cs = c.args.chunks.now in
    sum_all cs c.args.group c.loop-place.place c.loop-place.bytes c.loop-place.linked c.moves_of-moves.result (omega arith) c.loop-place.invariant.long c.loop-place.invariant.on
    (subst (λ (t : List ℕ). IfSome c.moves_of-moves.result (AreMoves t))
    (group_is cs c.args.group c.chunks_before-first.result c.min-end.result c.chunks_before-first.ensures (omega arith)) c.moves_of-moves.ensures)
