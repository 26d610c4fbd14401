use Rattle.std.proofs.Common.{arith, ap, length, ◌∙◌, ◌-◌, List, ℕ}
use Rattle.std.specs.List.{slice_range}
use Rattle.jx_edit.proofs.Texts.{between_is, between_long, seam_order}
use Rattle.jx_edit.proofs.chunking.seam.between.Goals as goal

pub slice_bounds-text_of-count : goal.slice_bounds-text_of-count
slice_bounds-text_of-count c =
    omega (
      arith,
      seam_order c.args.chunks.now c.args.start c.args.end c.seam_at-seam.result.before c.seam_at-seam.result.bytes c.seam_at-seam.result.here c.seam_at-close.result.before
          c.seam_at-close.result.bytes c.seam_at-close.result.here c.requires.order c.seam_at-seam.ensures c.seam_at-close.ensures,
    )

pub slice_bounds-text_of-start : goal.slice_bounds-text_of-start
slice_bounds-text_of-start c =
    omega (
      arith,
      seam_order c.args.chunks.now c.args.start c.args.end c.seam_at-seam.result.before c.seam_at-seam.result.bytes c.seam_at-seam.result.here c.seam_at-close.result.before
          c.seam_at-close.result.bytes c.seam_at-close.result.here c.requires.order c.seam_at-seam.ensures c.seam_at-close.ensures,
    )

pub slice_bounds-from_slice-end : goal.slice_bounds-from_slice-end
slice_bounds-from_slice-end c =
    let l = ap length (c.deref.ensures.value ∙ c.in_ok-all.ensures) in
    omega (
      arith,
      between_long c.args.chunks.now c.args.start c.args.end c.seam_at-seam.result.before c.seam_at-seam.result.bytes c.seam_at-seam.result.here c.seam_at-close.result.before
          c.seam_at-close.result.bytes c.seam_at-close.result.here c.requires.order c.seam_at-seam.ensures c.seam_at-close.ensures,
      l,
    )

pub returns : goal.returns
returns c =
    between_is c.args.chunks.now c.args.start c.args.end c.seam_at-seam.result.before c.seam_at-seam.result.bytes c.seam_at-seam.result.here
    c.seam_at-close.result.before c.seam_at-close.result.bytes c.seam_at-close.result.here c.in_ok-all.all.items c.in_ok-bytes.bytes.items c.requires.order
    c.seam_at-seam.ensures c.seam_at-close.ensures c.in_ok-all.ensures
    (c.in_ok-bytes.ensures.items ∙ ap (λ (t : List ℕ). slice_range t (c.args.start - c.seam_at-seam.result.bytes) (c.args.end - c.seam_at-seam.result.bytes)) c.deref.ensures.value)
