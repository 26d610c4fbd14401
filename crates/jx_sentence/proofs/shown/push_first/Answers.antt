use Rattle.jx_sentence.proofs.ShownPieces.{cut}
use Rattle.jx_sentence.proofs.shown.push_first.Goals as goal

pub slice_bounds-first-end : goal.slice_bounds-first-end
slice_bounds-first-end c = cut c.args.bytes.now c.decode-character.result.1 c.decode-character.ensures.size
