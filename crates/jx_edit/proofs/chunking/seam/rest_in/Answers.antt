use Rattle.std.proofs.Common.{arith, subst, sym, length, ◌≡◌, ◌+◌, ◌-◌, List, ℕ}
use Rattle.std.specs.List.{slice_range}
use Rattle.jx_edit.specs.inside.Chunks.{text_of}
use Rattle.jx_edit.proofs.Texts.{next_fits, next_is, rest_here, rest_is}
use Rattle.jx_edit.proofs.chunking.seam.rest_in.Goals as goal

pub overflow_add-before : goal.overflow_add-before
overflow_add-before c =
    omega (arith, next_fits c.args.chunks.now c.loop-place.place c.loop-place.before c.index-chunks-place.result c.bytes-bytes.result.now c.loop-place-test.true c.index-chunks-place.is c.bytes-bytes.ensures c.loop-place.invariant.0 c.requires.fits)

pub loop-place-preserved : goal.loop-place-preserved
loop-place-preserved c = (
  next_is c.args.chunks.now c.loop-place.place c.loop-place.before c.index-chunks-place.result c.bytes-bytes.result.now c.loop-place-test.true c.index-chunks-place.is c.bytes-bytes.ensures c.loop-place.invariant.0,
  omega arith,
)

pub returns-then-here-bytes-clause-part : goal.returns-then-here-bytes-clause-part
returns-then-here-bytes-clause-part c =
    let bytes = c.bytes-bytes.result.now in
    let here = c.args.at - c.loop-place.before in
    subst (λ (t : List ℕ). t ≡ slice_range (text_of c.args.chunks.now) c.args.at (c.args.at + length t)) (sym (rest_is bytes here))
    (rest_here c.args.chunks.now c.args.at c.loop-place.place c.loop-place.before c.index-chunks-place.result bytes c.loop-place-test.true c.index-chunks-place.is c.bytes-bytes.ensures
    c.loop-place.invariant.0 c.loop-place.invariant.1 (omega arith))
