use Rattle.std.proofs.Common.{arith}
use Rattle.jx_edit.proofs.Groups.{border_low}
use Rattle.jx_edit.proofs.Texts.{rest_is, rest_long, rest_behind}
use Rattle.jx_edit.proofs.chunking.seam.rest_at.Goals as goal

pub returns-clause-part : goal.returns-clause-part
returns-clause-part c =
    let b = c.border_before-border.result in
    rest_behind c.args.chunks.now _ c.args.at b.before b.bytes c.rest_in.result.now (rest_is c.args.chunks.now b.before) c.border_before-border.ensures.long
    (border_low c.args.chunks.now c.saturating_add.result c.args.at b.before b.bytes (omega arith) c.border_before-border.ensures) c.rest_in.ensures.part

pub rest_in-requires : goal.rest_in-requires
rest_in-requires c = record { fits = omega (arith, rest_long c.args.chunks.now c.border_before-border.result.before, c.requires.fits) }

pub returns-clause-some : goal.returns-clause-some
returns-clause-some c =
    let b = c.border_before-border.result in
    let low = border_low c.args.chunks.now c.saturating_add.result c.args.at b.before b.bytes (omega arith) c.border_before-border.ensures in
    λ some. c.rest_in.ensures.some (omega (arith, rest_long c.args.chunks.now b.before, c.border_before-border.ensures.long, low, some))
