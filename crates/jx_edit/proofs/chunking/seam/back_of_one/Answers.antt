use Rattle.std.proofs.Common.{◌-◌}
use Rattle.jx_edit.proofs.Texts.{back_is, rest_is}
use Rattle.jx_edit.proofs.chunking.seam.back_of_one.Goals as goal

pub returns : goal.returns
returns c =
    back_is c.args.chunks.now c.args.at c.seam_at-seam.result.before c.seam_at-seam.result.bytes c.seam_at-seam.result.here c.bytes_here-bytes.result.now _
    c.seam_at-seam.ensures c.bytes_here-bytes.ensures (rest_is c.bytes_here-bytes.result.now (c.args.at - c.seam_at-seam.result.bytes))
