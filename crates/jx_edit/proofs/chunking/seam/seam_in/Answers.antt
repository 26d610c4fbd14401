use Rattle.std.proofs.Common.{arith}
use Rattle.jx_edit.proofs.Texts.{next_fits, next_is, seam_here, seam_end}
use Rattle.jx_edit.proofs.chunking.seam.seam_in.Goals as goal

pub overflow_add-next : goal.overflow_add-next
overflow_add-next c =
    omega (arith, next_fits c.args.chunks.now c.loop-place.place c.loop-place.bytes c.index-chunks-place.result c.bytes.result.now c.loop-place-test.true c.index-chunks-place.is c.bytes.ensures c.loop-place.invariant.0 c.requires.fits)

pub loop-place-preserved : goal.loop-place-preserved
loop-place-preserved c = (
  next_is c.args.chunks.now c.loop-place.place c.loop-place.bytes c.index-chunks-place.result c.bytes.result.now c.loop-place-test.true c.index-chunks-place.is c.bytes.ensures c.loop-place.invariant.0,
  omega arith,
  λ some. omega arith,
)

pub returns-then-at-next : goal.returns-then-at-next
returns-then-at-next c =
    seam_here c.args.chunks.now c.args.at c.loop-place.place c.loop-place.bytes c.index-chunks-place.result c.bytes.result.now c.loop-place-test.true c.index-chunks-place.is c.bytes.ensures c.loop-place.invariant.0
    c.loop-place.invariant.1 c.loop-place.invariant.2 c.if-at-next.true

pub returns : goal.returns
returns c =
    seam_end c.args.chunks.now c.args.at c.loop-place.place c.loop-place.bytes c.loop-place-test.false c.loop-place.invariant.0 c.loop-place.invariant.1 c.loop-place.invariant.2 c.requires.within
