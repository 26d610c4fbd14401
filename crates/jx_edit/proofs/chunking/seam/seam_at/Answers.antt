use Rattle.std.proofs.Common.{arith}
use Rattle.jx_edit.proofs.Texts.{rest_is, rest_long, seam_behind}
use Rattle.jx_edit.proofs.chunking.seam.seam_at.Goals as goal

pub seam_in-near-requires-clause-fits : goal.seam_in-near-requires-clause-fits
seam_in-near-requires-clause-fits c = omega (arith, rest_long c.args.chunks.now c.border_before-border.result.before, c.requires.fits)

pub seam_in-near-requires-clause-within : goal.seam_in-near-requires-clause-within
seam_in-near-requires-clause-within c =
    omega (arith, rest_long c.args.chunks.now c.border_before-border.result.before, c.border_before-border.ensures.long, c.requires.within)

pub returns : goal.returns
returns c =
    let b = c.border_before-border.result in
    seam_behind c.args.chunks.now _ c.args.at b.before b.bytes c.seam_in-near.result.before c.seam_in-near.result.bytes c.seam_in-near.result.here
    (rest_is c.args.chunks.now b.before) c.border_before-border.ensures.within c.border_before-border.ensures.long c.border_before-border.ensures.tight c.seam_in-near.ensures
